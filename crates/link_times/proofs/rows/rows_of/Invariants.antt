use Rattle.std.proofs.Common.{◌*◌}
use Rattle.link_times.specs.Rows.{AreRowsTo}
use Rattle.link_times.proofs.rows.rows_of.Given as goal

abbrev pub invariant-loop-bucket : goal.invariant-loop-bucket
invariant-loop-bucket l = AreRowsTo l.links l.buckets l.times l.rows.items (l.bucket * l.links)
