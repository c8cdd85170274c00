use Rattle.std.proofs.Common.{[], length}
use Rattle.desk_io.specs.declared.desk.Output.TheVariants as output
use Rattle.net_core.specs.Network.{numbers_below}
use Rattle.pending_text.proofs.LineFacts.{AreAdded}
use Rattle.reports.specs.Texts.{link_wait_lines, origin_wait_header}
use Rattle.reports.proofs.waits.put_origin_waits.Given as goal

abbrev pub invariant-each : goal.invariant-each
invariant-each g l = AreAdded output.OriginWait (link_wait_lines l.net l.waits) origin_wait_header (numbers_below (length l.net.links)) l.link [] l.pending (g.D.Desk.state l.fn.desk) (g.D.Desk.state l.desk)
