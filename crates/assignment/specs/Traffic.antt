-- What is true of the traffic of a loading, of the routes of its vehicles, and of the loading.
use Rattle.std.specs.Prelude.{ℕ, ◌≡◌, ◌<◌, List, length, All}
use Rattle.std.specs.List.Sorted.{IsNonDecreasingBy}
use Rattle.net_core.specs.Network.{IsNet}
use Rattle.dta_model.specs.Laws.{EndInOrder, LinksAreLeftInOrder, StaysConserved}
use Rattle.dta_model.specs.Loading.{journeys_of}
use Rattle.dta_model.specs.Sound.{AreTrips, AreWalks, IsSound}
use Rattle.dta_model.specs.declared.plan.Plan.{Plan}
use Rattle.dta_model.specs.declared.trip.Trip.{Trip}
use Rattle.start_table.specs.Starts.{AreStartRows}
use Rattle.assignment.specs.Assignment.{Traffic, VehicleRoutes}

-- trips in order that depart before the horizon
pub record AreTripsBelow (horizon : ℕ) (trips : List Trip) : Type 0 where
  pub in_order : AreTrips trips
  pub rising : IsNonDecreasingBy (λ trip. trip.departure) trips
  pub early : All (λ trip. trip.departure < horizon) trips

-- the traffic of a loading up to a horizon: its rows make a network, its trips depart before the
-- horizon, and the rows of its start table are of different agents
pub record IsTraffic (horizon : ℕ) (traffic : Traffic) : Type 0 where
  pub net : IsNet traffic.net
  pub trips : AreTripsBelow horizon traffic.trips
  pub start : AreStartRows traffic.start

-- routes for the vehicles: as many as trips, each a walk between the zones of its trip
pub record AreRoutesOf (traffic : Traffic) (routes : VehicleRoutes) : Type 0 where
  pub each : length routes ≡ length traffic.trips
  pub walks : AreWalks traffic.net traffic.trips routes

-- a loading is sound: its vehicles depart in order and have walks over its network. After every
-- step each due vehicle that has a route waits, is on one link of the network or has arrived, and
-- links are left in the order of entry, in the trace and so in the journeys
pub record IsSoundLoading (p : Plan) : Type 0 where
  pub sound : IsSound p
  pub conserved : StaysConserved p
  pub left_in_order : LinksAreLeftInOrder p
  pub ordered : EndInOrder p (journeys_of p)
