use Rattle.std.proofs.Common.{arith}
use Rattle.dta_model.specs.Lent.{plan_of}
use Rattle.trip_costs.proofs.Waits.{none_more, vehicle_added}
use Rattle.trip_costs.proofs.adding.add_vehicle.Goals as goal

pub returns-in-Some : goal.returns-in-Some
returns-in-Some c =
    vehicle_added (plan_of c.args.buckets.now.loading) c.args.buckets.now.steps c.args.buckets.now.count c.args.loaded.now c.args.vehicle c.args.sums.now c.args.departed.now c.in-Some.link.0 c.place_of-place.result c.wait_of-wait.result _ c.get.result.now c.add_wait.new.sums c.add_wait.new.departed
    c.requires.before c.requires.vehicle c.in-Some.ensures.first c.get.ensures c.wait_of-wait.ensures (let h = c.wait_of-wait.type_inv in omega (arith, h))
    c.place_of-place.ensures.place c.place_of-place.ensures.bucket c.place_of-place.ensures.inside c.add_wait.ensures.sums c.add_wait.ensures.departed

pub returns-in_default : goal.returns-in_default
returns-in_default c =
    none_more (plan_of c.args.buckets.now.loading) c.args.buckets.now.steps c.args.buckets.now.count c.args.loaded.now c.args.vehicle c.args.sums.now c.args.departed.now c.requires.before c.in_default.ensures.first
