use Rattle.std.proofs.Common.{refl}
use Rattle.jobs.specs.Inputs.{Skimming}
use Rattle.jobs.specs.Kinds.{skim_rows}
use Rattle.skims.specs.Texts.{skim_texts}
use Rattle.commands.proofs.WorkFacts.{does-cut, does-done, does-nothing}
use Rattle.commands.proofs.skimmed.put_least_times.Goals as goal

pub returns-in-Ok-put_skim : goal.returns-in-Ok-put_skim
returns-in-Ok-put_skim g c =
    does-done c.args.settings.now (skim_rows c.args.job.now) Skimming c.requires.kind (skim_texts c.args.job.now.net c.in-Ok.skim) _ _
    (record { entries = c.in-Ok.skim; skim = c.in-Ok.ensures; texts_are = refl }) c.in-Ok-put_skim.ensures

pub returns-in-Ok : goal.returns-in-Ok
returns-in-Ok g c =
    does-cut c.args.settings.now (skim_rows c.args.job.now) Skimming c.requires.kind (skim_texts c.args.job.now.net c.in-Ok.skim) _ _
    (record { entries = c.in-Ok.skim; skim = c.in-Ok.ensures; texts_are = refl }) c.in-Err-put_skim.ensures

pub returns : goal.returns
returns g c = does-nothing c.args.settings.now (skim_rows c.args.job.now) (g.D.Desk.state c.args.desk.now) c.requires.job.start
