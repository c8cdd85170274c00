use Rattle.std.proofs.Common.{[]}
use Rattle.desk_io.specs.declared.desk.Output.TheVariants as output
use Rattle.pending_text.proofs.LineFacts.{AreAdded}
use Rattle.reports.specs.Texts.{free_link_line, free_link_time_header}
use Rattle.reports.proofs.free.put_links.Given as goal

abbrev pub invariant-each : goal.invariant-each
invariant-each g l = AreAdded output.LinkTime free_link_line free_link_time_header l.links l.row-index [] l.pending (g.D.Desk.state l.fn.desk) (g.D.Desk.state l.desk)
