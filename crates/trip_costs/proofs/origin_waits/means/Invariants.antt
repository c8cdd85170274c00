use Rattle.trip_costs.specs.WaitSums.{AreMeanWaits}
use Rattle.trip_costs.proofs.origin_waits.means.Given as goal

abbrev pub invariant-loop-place : goal.invariant-loop-place
invariant-loop-place l = AreMeanWaits l.sums l.departed l.waits.items l.place
