use Rattle.std.proofs.Common.{[]}
use Rattle.desk_io.specs.declared.desk.Output.TheVariants as output
use Rattle.net_core.specs.Network.{numbers_below}
use Rattle.dta_model.specs.LinkTimes.{buckets_to}
use Rattle.pending_text.proofs.LineFacts.{AreAdded}
use Rattle.reports.specs.Texts.{told_wait_line}
use Rattle.reports.proofs.waits.add_link.Given as goal

abbrev pub invariant-each : goal.invariant-each
invariant-each g l = AreAdded output.OriginWait (told_wait_line l.net l.waits l.link.0) [] (numbers_below (buckets_to l.waits.bucket l.waits.horizon)) l.bucket l.fn.pending l.pending (g.D.Desk.state l.fn.desk) (g.D.Desk.state l.desk)
