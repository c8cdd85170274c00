use Rattle.std.proofs.Common.{[]}
use Rattle.std.specs.Prelude.{option_copied}
use Rattle.desk_io.specs.declared.desk.Output.TheVariants as output
use Rattle.pending_text.proofs.LineFacts.{AreAdded}
use Rattle.reports.specs.Texts.{agent_header_by, vehicles}
use Rattle.reports.proofs.TextsFacts.{itself, lines_of}
use Rattle.reports.proofs.agents.put_lines.Given as goal

abbrev pub invariant-each : goal.invariant-each
invariant-each g l =
    AreAdded output.Agent itself (agent_header_by (option_copied l.since)) (lines_of l.net (vehicles l.trips l.routes l.loaded) (option_copied l.since)) l.v [] l.pending (g.D.Desk.state l.fn.desk) (g.D.Desk.state l.desk)
