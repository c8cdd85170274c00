use Rattle.std.proofs.Common.{subst, sym}
use Rattle.dta_words.specs.declared.command.Settings.{Settings}
use Rattle.loader.specs.Gates.{gate_of}
use Rattle.assignment.specs.Lent.{settings_in, traffic_in}
use Rattle.jobs.specs.Inputs.{Assigns}
use Rattle.jobs.specs.Kinds.{assign_rows}
use Rattle.commands.specs.Calls.{DoesWork}
use Rattle.assign_command.proofs.ReceiptFacts.{outcome-gives}
use Rattle.assign_command.proofs.assigned.assign.Goals as goal

pub put_outcome-requires-clause-command : goal.put_outcome-requires-clause-command
put_outcome-requires-clause-command g c =
    subst (λ (s : Settings). Assigns s.command) (sym c.assignment-assignment.ensures.settings) c.requires.command

pub returns-clause-works : goal.returns-clause-works
returns-clause-works g c =
    let is = c.assignment-assignment.ensures in
    subst (λ (s : Settings). DoesWork s (assign_rows c.args.job.now) (g.D.Desk.state c.args.desk.now) (g.D.Desk.state c.put_outcome.new.desk) c.put_outcome.result) is.settings
    (c.put_outcome.ensures.works (g.D.Desk.state c.args.desk.now) (assign_rows c.args.job.now) is.traffic c.iterate-outcome.ensures.watches)

pub returns-clause-receipts : goal.returns-clause-receipts
returns-clause-receipts g c =
    let is = c.assignment-assignment.ensures in
    let a = c.assignment-assignment.result in
    let shown = gate_of g.G.Gate.closes g.G.Gate.last in
    outcome-gives c.args.settings.now (assign_rows c.args.job.now) (shown c.args.gate.now) (shown c.iterate-outcome.new.gate) c.iterate-outcome.result c.put_outcome.result
    c.requires.command (settings_in a) (traffic_in a) is.settings is.traffic c.iterate-outcome.ensures.receipts c.put_outcome.ensures.halted
