-- What a gap means, by the costs that it is taken in: link times, or whole trips.
use Rattle.std.specs.Prelude.{◌≡◌, ◌≤◌, ◌↔◌, ℕ, List, length, Option, Some, slice_get}
use Rattle.net_core.specs.declared.rows.LinkNo.{LinkNo}
use Rattle.net_core.specs.declared.rows.NetRows.{NetRows}
use Rattle.dta_model.specs.Plans.{link_numbers}
use Rattle.dta_model.specs.Sound.{AreWalks}
use Rattle.dta_model.specs.Walks.{IsWalk}
use Rattle.dta_model.specs.declared.plan.Plan.{Plan}
use Rattle.dta_model.specs.declared.trip.Trip.{Trip}
use Rattle.dta_words.specs.Ranges.{AreSettings}
use Rattle.dta_words.specs.declared.command.Settings.{Settings}
use Rattle.trip_costs.specs.LoadingCosts.{costs_by}
use Rattle.trip_costs.specs.Timings.{Timing, walk_time_by}
use Rattle.assignment.specs.Assignment.{Traffic, VehicleRoutes}
use Rattle.assignment.specs.Iterations.{AreIterations}
use Rattle.assignment.specs.Traffic.{IsTraffic}
use Rattle.gap.specs.Gap.{AreLeasts, IsGapLine}
use Rattle.gap.specs.RouteTimes.{over_vehicles, route_time}
use Rattle.gap.specs.declared.line.GapLine.{GapLine}

-- by these costs no vehicle that has a route would take less time, from its departure, on another
-- walk between its zones. That is a dynamic user equilibrium, by Wardrop's first principle
-- (Wardrop 1952, "Some theoretical aspects of road traffic research")
abbrev pub IsUserEquilibrium : Timing → NetRows → List Trip → List (Option (List LinkNo)) → Type 0
IsUserEquilibrium costs net trips routes =
    (v : ℕ) (trip : Trip) (route : List LinkNo) → slice_get trips v ≡ Some trip
    → slice_get routes v ≡ Some (Some route)
    → (other : List ℕ) → IsWalk net trip.origin trip.destination other
    → walk_time_by costs net trip.departure (link_numbers route)
    ≤ walk_time_by costs net trip.departure other

-- routes of trips: there are as many, and a route is a walk between the zones of its trip
pub record AreRoutesOf (net : NetRows) (trips : List Trip) (routes : List (Option (List LinkNo)))
    : Type 0 where
  pub each : length routes ≡ length trips
  pub walks : AreWalks net trips routes

-- a gap that is never negative: no vehicle's route takes less than its least time, and so all
-- routes together take no less than all least times
pub record IsNotNegative (trips : List Trip) (time least : ℕ → ℕ) : Type 0 where
  pub by_vehicle : (v : ℕ) (trip : Trip) → slice_get trips v ≡ Some trip → least v ≤ time v
  pub in_all : over_vehicles (length trips) least ≤ over_vehicles (length trips) time

abbrev pub GapIsNeverNegative : Type 0
GapIsNeverNegative =
    (costs : Timing) (net : NetRows) (trips : List Trip) (routes : List (Option (List LinkNo)))
    (least : ℕ → ℕ) → AreRoutesOf net trips routes → AreLeasts costs net trips routes least
    → IsNotNegative trips (route_time costs net trips routes) least

-- the gap is 0 exactly where routes are a user equilibrium by the costs that it is taken in
abbrev pub NoGapIsEquilibrium : Type 0
NoGapIsEquilibrium =
    (costs : Timing) (net : NetRows) (trips : List Trip) (routes : List (Option (List LinkNo)))
    (line : GapLine) → AreRoutesOf net trips routes → IsGapLine costs net trips routes line
    → (line.gap_steps ≡ 0) ↔ IsUserEquilibrium costs net trips routes

-- ---- the gaps that an assignment tells
-- the loading over the routes of an iteration
abbrev pub loading_over : Settings → Traffic → VehicleRoutes → Plan
loading_over s traffic routes = record {
  net = traffic.net;
  queue = s.queue;
  delta = s.units.delta;
  horizon = s.horizon;
  trips = traffic.trips;
  routes = routes;
}

-- a gap of an iteration, by the costs of the loading over its own routes: its link times, or whole
-- trips. The least steps are no more than those of the routes, and there is no gap exactly where
-- no vehicle that has a route would take less time on another one
pub record IsGapOfItsLoading (s : Settings) (traffic : Traffic) (routes : VehicleRoutes)
    (line : GapLine) : Type 0 where
  pub not_negative : line.least_steps ≤ line.route_steps
  pub no_gap : (line.gap_steps ≡ 0)
      ↔ IsUserEquilibrium (costs_by s.costs (loading_over s traffic routes) s.bucket)
      traffic.net traffic.trips routes

-- so is each gap that an assignment tells of its iterations
abbrev pub GapsAreOfTheirLoadings : Type 0
GapsAreOfTheirLoadings =
    (s : Settings) (traffic : Traffic) (all : List VehicleRoutes) (lines : List GapLine)
    → AreSettings s → IsTraffic s.horizon traffic → AreIterations s traffic all lines
    → (i : ℕ) (routes : VehicleRoutes) (line : GapLine)
    → slice_get all i ≡ Some routes → slice_get lines i ≡ Some line
    → IsGapOfItsLoading s traffic routes line
