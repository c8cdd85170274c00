use Rattle.std.proofs.Common.{◌≡◌, refl, subst}
use Rattle.reports.specs.Texts.{free_texts}
use Rattle.jobs.specs.Inputs.{FreeFlow, kind_of}
use Rattle.jobs.specs.Kinds.{IsFor, free_rows}
use Rattle.commands.proofs.WorkFacts.{does-cut, does-done}
use Rattle.dta_run.proofs.without_workers.work.Goals as goal

pub returns-in-Ok : goal.returns-in-Ok
returns-in-Ok g c =
    let own : kind_of c.args.settings.now.command ≡ FreeFlow = subst (IsFor c.args.settings.now.command) c.in-Freeflow.is c.requires.own in
    let job = free_rows c.in-Freeflow.net in
    rw (c.in-Freeflow.is) (does-done c.args.settings.now job FreeFlow own (free_texts job.net) _ _ refl c.in-Ok.ensures)

pub returns-in-Err : goal.returns-in-Err
returns-in-Err g c =
    let own : kind_of c.args.settings.now.command ≡ FreeFlow = subst (IsFor c.args.settings.now.command) c.in-Freeflow.is c.requires.own in
    let job = free_rows c.in-Freeflow.net in
    rw (c.in-Freeflow.is) (does-cut c.args.settings.now job FreeFlow own (free_texts job.net) _ _ refl c.in-Err.ensures)
