use Rattle.trip_costs.specs.WalkCosts.{timing}
use Rattle.std.proofs.Common.{◌<◌, length, arith, refl, sym, ◌∙◌, subst, ap, Some}
use Rattle.std.proofs.lemmas.Option.{slice_get-get_or, slice_get_read}
use Rattle.gap.specs.RouteTimes.{route_time}
use Rattle.gap.proofs.Sums.{links_within, over-more, route_time-is}
use Rattle.gap.proofs.measure.steps_between.Goals as goal

pub route_steps-total-requires-clause-links : goal.route_steps-total-requires-clause-links
route_steps-total-requires-clause-links c links is =
    let v = c.loop-v.v in
    let routes = c.args.routes.now in
    let trips = c.args.timed.now.trips.now in
    let m = c.requires.routes in
    let there : v < length trips = omega (arith, c.loop-v-test.true, c.requires.to) in
    let inside : v < length routes = subst (λ n. v < n) (sym m.each) there in
    links_within c.args.timed.now.net.now _ _ links
    (m.walks v _ links (slice_get-get_or trips v (record { number = 0; origin = 0; destination = 0; departure = 0 }) there) (slice_get_read routes (length routes) v c.index-routes-v.result refl inside c.index-routes-v.is ∙ ap Some is))

pub loop-v-preserved : goal.loop-v-preserved
loop-v-preserved c =
    let v = c.loop-v.v in
    let routes = c.args.routes.now in
    let trips = c.args.timed.now.trips.now in
    let costs = timing c.args.timed.now.costs in
    let net = c.args.timed.now.net.now in
    let inv = c.loop-v.invariant in
    let there : v < length trips = omega (arith, c.loop-v-test.true, c.requires.to) in
    let inside : v < length routes = subst (λ n. v < n) (sym c.requires.routes.each) there in
    let more = over-more v (route_time costs net trips routes) in
    let here = route_time-is costs net trips routes v _ c.index-routes-v.result (slice_get-get_or trips v (record { number = 0; origin = 0; destination = 0; departure = 0 }) there) (slice_get_read routes (length routes) v c.index-routes-v.result refl inside c.index-routes-v.is) in
    (omega (arith, more, here, inv.0, c.route_steps-total.ensures.is), omega (arith, inv.1, c.route_steps-total.ensures.low))
