use Rattle.std.proofs.Common.{◌+◌, get_or, subst, sym}
use Rattle.std.proofs.lemmas.Option.{slice_get-get_or}
use Rattle.dta_model.specs.declared.trip.Trip.{Trip}
use Rattle.start_table.specs.Starts.{TellsStart}
use Rattle.route_flows.proofs.Started.{Begun, begun_more}
use Rattle.route_flows.proofs.starts.start_walks.Goals as goal

abbrev no_trip : Trip
no_trip = record { number = 0; origin = 0; destination = 0; departure = 0 }

pub loop-trip-preserved : goal.loop-trip-preserved
loop-trip-preserved c =
    let trips = c.args.trips.now in
    let i = c.loop-trip.trip-index in
    subst (λ l. Begun (λ v. TellsStart c.args.net.now c.args.start.now) trips (i + 1) l) (sym c.in_ok-push.ensures.items)
    (begun_more (λ v. TellsStart c.args.net.now c.args.start.now) trips i c.loop-trip.walks.items (get_or trips i no_trip) c.in_ok-walk_of.field-0 (slice_get-get_or trips i no_trip c.loop-trip-test.true) (subst (λ n. TellsStart n c.args.start.now (get_or trips i no_trip) c.in_ok-walk_of.field-0) c.in_ok-index.ensures c.in_ok-walk_of.ensures) c.loop-trip.invariant)
