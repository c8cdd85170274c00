use Rattle.dta_model.specs.Lent.{plan_of}
use Rattle.trip_costs.specs.WaitSums.{AreWaitSums}
use Rattle.trip_costs.proofs.adding.add_vehicles.Given as goal

abbrev pub invariant-loop-vehicle : goal.invariant-loop-vehicle
invariant-loop-vehicle l = AreWaitSums (plan_of l.buckets.loading) l.buckets.steps l.buckets.count l.loaded l.vehicle l.sums l.departed
