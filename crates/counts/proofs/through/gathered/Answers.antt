use Rattle.std.proofs.Common.{◌≡◌, length, arith, subst, sym}
use Rattle.dta_model.specs.Lent.{plan_of}
use Rattle.counts.specs.Inside.Pairs.{ArePairs}
use Rattle.counts.proofs.Entered.{pairs_first}
use Rattle.counts.proofs.through.gathered.Goals as goal

pub loop-vehicle-init : goal.loop-vehicle-init
loop-vehicle-init c = subst (λ L. ArePairs (plan_of c.args.loading.now) c.args.link.0 0 L) (sym c.new-pairs.ensures.items) (pairs_first (plan_of c.args.loading.now) c.args.link.0)

pub returns : goal.returns
returns c =
    let past : c.loop-vehicle.vehicle ≡ length c.args.loading.now.trips.now = omega arith in
    subst (λ n. ArePairs (plan_of c.args.loading.now) c.args.link.0 n c.loop-vehicle.pairs.items) past c.loop-vehicle.invariant
