use Rattle.link_times.specs.Means.{AreMeans}
use Rattle.link_times.proofs.means.means.Given as goal

abbrev pub invariant-loop-place : goal.invariant-loop-place
invariant-loop-place l = AreMeans l.free l.buckets l.sums l.counts l.times.items l.place
