use Rattle.link_times.specs.Means.{AreFree}
use Rattle.link_times.proofs.means.free_times.Given as goal

abbrev pub invariant-loop-place : goal.invariant-loop-place
invariant-loop-place l = AreFree l.free l.buckets l.times.items l.place
