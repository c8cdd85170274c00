use Rattle.trip_costs.specs.WalkCosts.{tables, timing}
use Rattle.std.proofs.Common.{◌≡◌, ◌≢◌, ◌<◌, ℕ, ap, get_or, None, Some, subst, sym, ◌∙◌}
use Rattle.std.specs.Prelude.{slice_index}
use Rattle.std.proofs.lemmas.Option.{slice_get-get_or}
use Rattle.net_core.specs.Network.{zone_number}
use Rattle.dta_model.specs.declared.trip.Trip.{Trip}
use Rattle.labels.specs.ToZone.{TellsLeast, TellsWalk}
use Rattle.labels.specs.declared.states.zone_numbers.TheConstants.{NO_ZONE}
use Rattle.time_routes.specs.Destinations.{asked_least, asked_walk, asks_least, asks_walk, LeastOf, WalkOf}
use Rattle.time_routes.specs.Searches.{GoesTo}
use Rattle.time_routes.specs.declared.destination.Destination.{Destination}
use Rattle.time_routes.proofs.TellFacts.{apart_of, begins_at, number_is, leads, nowhere_of, right_between, right_of}
use Rattle.time_routes.proofs.destination.Destination.search_answer.Goals as goal

abbrev no_trip : Trip
no_trip = record { number = 0; origin = 0; destination = 0; departure = 0 }

-- the zone in which a vehicle begins that goes there is another one
begins : (d : Destination) (v n : ℕ) → GoesTo d.search.now (slice_index d.labels.now.zones d.place) v → n ≡ get_or d.search.now.origins.items v n → n ≢ NO_ZONE → zone_number d.search.now.net.now (get_or d.search.now.trips.now v no_trip).origin ≡ Some n
begins d v n goes is some =
    let s = d.search.now in
    number_is (zone_number s.net.now (get_or s.trips.now v no_trip).origin) n (begins_at s.net.now s.trips.now s.origins.items v n no_trip s.is.begins goes.within is) some

from_other : (d : Destination) (v n : ℕ) → GoesTo d.search.now (slice_index d.labels.now.zones d.place) v → n ≡ get_or d.search.now.origins.items v n → n ≢ NO_ZONE → n ≢ slice_index d.labels.now.zones d.place
from_other d v n goes is some =
    let s = d.search.now in
    let trip = get_or s.trips.now v no_trip in
    let to = leads s.net.now s.trips.now s.asks.now _ v trip goes (slice_get-get_or s.trips.now v no_trip goes.within) in
    apart_of s.net.now trip.origin trip.destination n _ (begins d v n goes is some) to (s.is.apart v no_trip goes.within)

pub returns-then-from-clause-right : goal.returns-then-from-clause-right
returns-then-from-clause-right c =
    let s = c.args.self.now.search.now in
    let net = s.net.now in
    let costs = timing s.costs in
    let v = c.args.vehicle in
    let trip = get_or s.trips.now v no_trip in
    let there = slice_get-get_or s.trips.now v no_trip c.requires.within in
    let nowhere = nowhere_of net trip.origin trip.destination s.is.numbers (sym c.if-from.true ∙ begins_at net s.trips.now s.origins.items v c.index-from.result.now no_trip s.is.begins c.requires.within c.index-from.ensures) in
    record {
      within = c.requires.within;
      least = right_of (LeastOf costs net) (asks_least s.asks.now) s.trips.now v trip None there nowhere;
      walk = right_of (WalkOf costs net) (asks_walk s.asks.now) s.trips.now v trip None there nowhere;
    }

pub find-requires-clause-other : goal.find-requires-clause-other
find-requires-clause-other c = from_other c.args.self.now c.args.vehicle c.index-from.result.now c.requires c.index-from.ensures c.if-from.false

pub returns-clause-right : goal.returns-clause-right
returns-clause-right c =
    let d = c.args.self.now in
    let s = d.search.now in
    let net = s.net.now in
    let v = c.args.vehicle in
    let n = c.index-from.result.now in
    let trip = get_or s.trips.now v no_trip in
    let there = slice_get-get_or s.trips.now v no_trip c.requires.within in
    let asked = slice_get-get_or s.asks.now v _ (subst (λ k. v < k) (sym s.is.each) c.requires.within) in
    let from = begins d v n c.requires c.index-from.ensures c.if-from.false in
    let to = leads net s.trips.now s.asks.now _ v trip c.requires there in
    record {
      within = c.requires.within;
      least = right_between (λ t m o e step x. TellsLeast t m o e step x) (asks_least s.asks.now) _ d.labels.now net (tables s.costs) s.trips.now v n _ trip _ (ap asked_least asked) d.same_net d.same_costs there from to c.in_ok-least.ensures.least;
      walk = right_between (λ t m o e step x. TellsWalk t m o e step x) (asks_walk s.asks.now) _ d.labels.now net (tables s.costs) s.trips.now v n _ trip _ (ap asked_walk asked) d.same_net d.same_costs there from to c.in_ok-least.ensures.walk;
    }
