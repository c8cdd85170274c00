use Rattle.std.proofs.Common.{take}
use Rattle.desk_io.specs.declared.desk.Output.TheVariants as output
use Rattle.pending_text.proofs.SendingFacts.{HasAdded}
use Rattle.reports.specs.Texts.{joined}
use Rattle.reports.proofs.agents.add_steps.Given as goal

abbrev pub invariant-each : goal.invariant-each
invariant-each g l = HasAdded output.Agent (joined (take l.place l.steps)) l.fn.pending l.pending (g.D.Desk.state l.fn.desk) (g.D.Desk.state l.desk)
