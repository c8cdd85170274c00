use Rattle.std.proofs.Common.{◌+◌, refl, arith, ◌∙◌}
use Rattle.dta_model.specs.Lent.{plan_of}
use Rattle.link_times.proofs.Totals.{sums_first, sums_more}
use Rattle.link_times.proofs.adding.add_journeys.Goals as goal

pub loop-vehicle-init : goal.loop-vehicle-init
loop-vehicle-init c =
    let first = sums_first (plan_of c.args.buckets.now.loading) c.args.buckets.now.steps c.args.buckets.now.count c.args.sums.now c.args.counts.now c.requires.empty c.requires.none in
    (refl, c.requires.many, first.0, first.1)

pub loop-vehicle-preserved : goal.loop-vehicle-preserved
loop-vehicle-preserved c =
    let i = c.loop-vehicle.invariant in (
      c.add_vehicle.ensures.size ∙ i.0,
      c.add_vehicle.ensures.many,
      sums_more (plan_of c.args.buckets.now.loading) c.args.buckets.now.steps c.args.buckets.now.count c.loop-vehicle.vehicle (c.loop-vehicle.vehicle + 1) c.loop-vehicle.sums c.loop-vehicle.counts c.add_vehicle.new.sums c.add_vehicle.new.counts (omega arith) (i.2) c.add_vehicle.ensures.added,
      c.add_vehicle.ensures.within,
    )
