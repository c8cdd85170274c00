use Rattle.std.proofs.Common.{◌≡◌, ◌+◌, length, arith, subst, sym}
use Rattle.dta_model.specs.Lent.{plan_of}
use Rattle.counts.specs.Inside.Turns.{AreTurns}
use Rattle.counts.proofs.Adding.{turns_first, turns_next}
use Rattle.counts.proofs.turns.gathered.Goals as goal

pub loop-vehicle-init : goal.loop-vehicle-init
loop-vehicle-init c = subst (λ L. AreTurns (plan_of c.args.loading.now) c.args.bucket 0 L) (sym c.new-turns.ensures.items) (turns_first (plan_of c.args.loading.now) c.args.bucket)

pub loop-vehicle-preserved : goal.loop-vehicle-preserved
loop-vehicle-preserved c =
    turns_next (plan_of c.args.loading.now) c.args.bucket c.loop-vehicle.vehicle (c.loop-vehicle.vehicle + 1) c.loop-vehicle.turns.items _ (omega arith) c.loop-vehicle.invariant c.in_ok-add_vehicle.ensures

pub returns : goal.returns
returns c =
    let past : c.loop-vehicle.vehicle ≡ length c.args.loading.now.trips.now = omega arith in
    subst (λ n. AreTurns (plan_of c.args.loading.now) c.args.bucket n c.loop-vehicle.turns.items) past c.loop-vehicle.invariant
