use Rattle.std.proofs.Common.{◌+◌, refl, length, subst, sym}
use Rattle.std.proofs.lemmas.Option.{slice_get_read}
use Rattle.route_flows.specs.Asked.{AreAsked, takes}
use Rattle.route_flows.proofs.Averaged.{ask_is, asked_more}
use Rattle.route_flows.proofs.selection.asks_of.Goals as goal

pub loop-v-preserved : goal.loop-v-preserved
loop-v-preserved c =
    let routes = c.args.routes.now in
    let v = c.loop-v.v in
    let selected = takes c.args.change.now in
    let there = slice_get_read routes (length routes) v c.index-routes-v.result refl c.loop-v-test.true c.index-routes-v.is in
    subst (λ l. AreAsked selected routes (v + 1) l) (sym c.in_ok-push.ensures.items)
    (asked_more selected routes v c.loop-v.asks.items _ (ask_is selected routes v c.index-routes-v.result c.is_some.result c.takes.result _ there c.is_some.ensures c.takes.ensures refl) c.loop-v.invariant)
