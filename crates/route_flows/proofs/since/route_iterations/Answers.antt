use Rattle.std.proofs.Common.{◌≡◌, ◌+◌, get_or, length, refl, Some, subst, sym}
use Rattle.std.specs.Prelude.{slice_get}
use Rattle.std.proofs.lemmas.Option.{slice_get-get_or, slice_get_read}
use Rattle.dta_model.specs.declared.trip.Trip.{Trip}
use Rattle.route_flows.specs.Averages.{IsSince}
use Rattle.route_flows.proofs.Numbered.{numbered_since}
use Rattle.route_flows.proofs.Started.{Begun, begun_more}
use Rattle.route_flows.proofs.since.route_iterations.Goals as goal

abbrev no_trip : Trip
no_trip = record { number = 0; origin = 0; destination = 0; departure = 0 }

pub loop-v-preserved : goal.loop-v-preserved
loop-v-preserved c =
    let net = c.args.net.now in
    let start = c.args.start.now in
    let trips = c.args.trips.now in
    let v = c.loop-v.v in
    let trip = get_or trips v no_trip in
    let here : slice_get trips v ≡ Some trip = slice_get-get_or trips v no_trip c.loop-v-test.true in
    let there : slice_get c.in_ok-walks.walks.items v ≡ Some c.index.result.now =
    slice_get_read c.in_ok-walks.walks.items (length trips) v c.index.result.now (sym c.in_ok-walks.ensures.as_many) c.loop-v-test.true c.index.ensures in
    subst (λ l. Begun (IsSince c.args.by net start c.args.iterations) trips (v + 1) l) (sym c.in_ok-push.ensures.items)
    (begun_more (IsSince c.args.by net start c.args.iterations) trips v c.loop-v.numbers.items trip c.since.result here
    (numbered_since c.args.by net start c.args.iterations v trip c.index.result.now c.since.result
    (c.in_ok-walks.ensures.each v c.index.result.now there trip refl here) c.since.ensures)
    c.loop-v.invariant)
