use Rattle.std.proofs.Common.{[]}
use Rattle.desk_io.specs.declared.desk.Output.TheVariants as output
use Rattle.net_core.specs.Network.{numbers_below}
use Rattle.dta_model.specs.LinkTimes.{bucket_count}
use Rattle.pending_text.proofs.LineFacts.{AreAdded}
use Rattle.reports.specs.Texts.{bucket_line}
use Rattle.reports.proofs.times.add_link.Given as goal

abbrev pub invariant-each : goal.invariant-each
invariant-each g l = AreAdded output.LinkTime (bucket_line l.net l.times l.link.0) [] (numbers_below (bucket_count l.times)) l.bucket l.fn.pending l.pending (g.D.Desk.state l.fn.desk) (g.D.Desk.state l.desk)
