use Rattle.std.proofs.Common.{◌+◌, arith, sym, ◌∙◌, subst}
use Rattle.dta_model.specs.Lent.{plan_of}
use Rattle.counts.specs.Inside.Pairs.{ArePairs}
use Rattle.counts.proofs.Entered.{pairs_next, pairs_same}
use Rattle.counts.proofs.through.add_vehicle.Goals as goal

pub returns-in_ok-push : goal.returns-in_ok-push
returns-in_ok-push c =
    subst (λ L. ArePairs (plan_of c.args.loading.now) c.args.link.0 (c.args.vehicle + 1) L) (sym c.in_ok-push.ensures.items)
    (pairs_next (plan_of c.args.loading.now) c.args.link.0 c.args.vehicle (c.args.vehicle + 1) c.args.pairs.now.items c.zones_of.result (omega arith) (sym c.enters.ensures ∙ c.if-enters.true) c.zones_of.ensures c.requires.pairs)

pub returns-else-enters : goal.returns-else-enters
returns-else-enters c =
    pairs_same (plan_of c.args.loading.now) c.args.link.0 c.args.vehicle (c.args.vehicle + 1) c.args.pairs.now.items (omega arith) (sym c.enters.ensures ∙ c.if-enters.false) c.requires.pairs
