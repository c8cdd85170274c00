use Rattle.std.proofs.Common.{◌+◌, ◌*◌}
use Rattle.link_times.specs.Rows.{AreRowsTo}
use Rattle.link_times.proofs.rows.add_row.Given as goal

abbrev pub invariant-loop-link : goal.invariant-loop-link
invariant-loop-link l = AreRowsTo l.links l.buckets l.times l.rows.items (l.bucket * l.links + l.link)
