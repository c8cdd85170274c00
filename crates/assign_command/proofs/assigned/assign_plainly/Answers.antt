use Rattle.std.proofs.Common.{subst, sym}
use Rattle.dta_words.specs.declared.command.Settings.{Settings}
use Rattle.jobs.specs.Inputs.{Assigns}
use Rattle.jobs.specs.Kinds.{assign_rows}
use Rattle.commands.specs.Calls.{DoesWork}
use Rattle.assign_command.proofs.assigned.assign_plainly.Goals as goal

pub put_outcome-requires-clause-command : goal.put_outcome-requires-clause-command
put_outcome-requires-clause-command g c =
    subst (λ (s : Settings). Assigns s.command) (sym c.assignment-assignment.ensures.settings) c.requires.command

pub returns : goal.returns
returns g c =
    let is = c.assignment-assignment.ensures in
    subst (λ (s : Settings). DoesWork s (assign_rows c.args.job.now) (g.D.Desk.state c.args.desk.now) (g.D.Desk.state c.put_outcome.new.desk) c.put_outcome.result) is.settings
    (c.put_outcome.ensures.works (g.D.Desk.state c.args.desk.now) (assign_rows c.args.job.now) is.traffic c.iterate-outcome.ensures.watches)
