use Rattle.std.proofs.Common.{[]}
use Rattle.std.specs.List.{enumerate_from}
use Rattle.desk_io.specs.declared.desk.Output.TheVariants as output
use Rattle.pending_text.proofs.LineFacts.{AreAdded}
use Rattle.reports.specs.Texts.{gap_header, numbered_line}
use Rattle.reports.proofs.gaps.put_gaps.Given as goal

abbrev pub invariant-each : goal.invariant-each
invariant-each g l = AreAdded output.Gap numbered_line gap_header (enumerate_from 1 l.lines) l.place [] l.pending (g.D.Desk.state l.fn.desk) (g.D.Desk.state l.desk)
