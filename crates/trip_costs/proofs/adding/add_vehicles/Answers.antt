use Rattle.dta_model.specs.Lent.{plan_of}
use Rattle.trip_costs.proofs.Waits.{none_yet}
use Rattle.trip_costs.proofs.adding.add_vehicles.Goals as goal

pub loop-vehicle-init : goal.loop-vehicle-init
loop-vehicle-init c =
    none_yet (plan_of c.args.buckets.now.loading) c.args.buckets.now.steps c.args.buckets.now.count c.args.loaded.now c.args.sums.now c.args.departed.now c.requires.size c.requires.many c.requires.empty c.requires.none
