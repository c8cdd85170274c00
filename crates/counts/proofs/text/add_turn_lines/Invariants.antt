use Rattle.std.proofs.Common.{[]}
use Rattle.desk_io.specs.declared.desk.Output.TheVariants as output
use Rattle.pending_text.proofs.LineFacts.{AreAdded}
use Rattle.counts.specs.Text.{turn_line}
use Rattle.counts.proofs.text.add_turn_lines.Given as goal

abbrev pub invariant-each : goal.invariant-each
invariant-each g l = AreAdded output.Counts (turn_line l.net l.bucket l.horizon) [] l.turns l.turn-index l.fn.pending l.pending (g.D.Desk.state l.fn.desk) (g.D.Desk.state l.desk)
