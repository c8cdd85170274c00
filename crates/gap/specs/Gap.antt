-- The gap of an iteration: how many steps its routes take above the least ones. Routes and least
-- times are by the same costs, each from its vehicle's departure.
use Rattle.std.specs.Prelude.{◌≡◌, ℕ, ◌+◌, Bool, false, is_some, List, length, Option, None, Some}
use Rattle.std.specs.Prelude.{slice_get}
use Rattle.net_core.specs.declared.rows.LinkNo.{LinkNo}
use Rattle.net_core.specs.declared.rows.NetRows.{NetRows}
use Rattle.dta_model.specs.declared.trip.Trip.{Trip}
use Rattle.trip_costs.specs.Timings.{Timing}
use Rattle.trip_costs.specs.TripWalks.{IsLeastBy}
use Rattle.gap.specs.RouteTimes.{over_vehicles, ppm_of, route_time}
use Rattle.gap.specs.declared.line.GapLine.{GapLine}

-- the least steps of a trip whose vehicle has a route, and 0 where it has none
abbrev pub IsLeastOf : Timing → NetRows → Trip → Option (List LinkNo) → ℕ → Type 0
IsLeastOf costs net trip None least = least ≡ 0
IsLeastOf costs net trip (Some route) least =
    IsLeastBy costs net trip.origin trip.destination trip.departure least

-- those of every vehicle
abbrev pub AreLeasts : Timing → NetRows → List Trip → List (Option (List LinkNo)) → (ℕ → ℕ)
    → Type 0
AreLeasts costs net trips routes least =
    (v : ℕ) (trip : Trip) (route : Option (List LinkNo)) → slice_get trips v ≡ Some trip
    → slice_get routes v ≡ Some route → IsLeastOf costs net trip route (least v)

-- whether the vehicle at a place of the list has a route
abbrev pub routed : Option (Option (List LinkNo)) → Bool
routed None = false
routed (Some route) = is_some route

abbrev pub has_route : List (Option (List LinkNo)) → ℕ → Bool
has_route routes v = routed (slice_get routes v)

-- the line of an iteration's gap, over the vehicles that have a route
pub record IsGapLine (costs : Timing) (net : NetRows) (trips : List Trip)
    (routes : List (Option (List LinkNo))) (line : GapLine) : Type 0 where
  -- the steps of their routes
  pub by_routes :
      line.route_steps ≡ over_vehicles (length trips) (route_time costs net trips routes)
  -- their least steps
  pub by_leasts : (least : ℕ → ℕ) × AreLeasts costs net trips routes least
      × (line.least_steps ≡ over_vehicles (length trips) least)
  -- the first less the second, which is no greater
  pub above : line.least_steps + line.gap_steps ≡ line.route_steps
  pub per_million : line.ppm ≡ ppm_of line.gap_steps line.least_steps
