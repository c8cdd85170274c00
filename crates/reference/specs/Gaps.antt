-- The gap of an iteration by a function: the least steps are those of the chosen walks.
use Rattle.std.specs.Prelude.{ℕ, ◌-◌, List, length, Option, None, Some, slice_get}
use Rattle.net_core.specs.declared.rows.LinkNo.{LinkNo}
use Rattle.net_core.specs.declared.rows.NetRows.{NetRows}
use Rattle.dta_model.specs.declared.trip.Trip.{Trip}
use Rattle.trip_costs.specs.Timings.{Timing}
use Rattle.gap.specs.RouteTimes.{over_vehicles, ppm_of, route_time, steps_of}
use Rattle.gap.specs.declared.line.GapLine.{GapLine}
use Rattle.reference.specs.Routes.{chosen_route}

-- the steps of the chosen walk of a trip whose vehicle has a route, and 0 where it has none
abbrev pub least_of : Timing → NetRows → Option Trip → Option (Option (List LinkNo)) → ℕ
least_of costs net None route = 0
least_of costs net (Some trip) None = 0
least_of costs net (Some trip) (Some None) = 0
least_of costs net (Some trip) (Some (Some route)) =
    steps_of costs net (Some trip) (Some (chosen_route costs net trip))

-- those of the vehicle at a place of the list
abbrev pub least_time : Timing → NetRows → List Trip → List (Option (List LinkNo)) → ℕ → ℕ
least_time costs net trips routes v = least_of costs net (slice_get trips v) (slice_get routes v)

-- the line of these steps: by the routes, and the least ones
abbrev pub line_of : (by_routes least : ℕ) → GapLine
line_of by_routes least = record {
  route_steps = by_routes;
  least_steps = least;
  gap_steps = by_routes - least;
  ppm = ppm_of (by_routes - least) least;
}

-- the line of routes by costs
unfoldable pub gap_of : Timing → NetRows → List Trip → List (Option (List LinkNo)) → GapLine
gap_of costs net trips routes = line_of
    (over_vehicles (length trips) (route_time costs net trips routes))
    (over_vehicles (length trips) (least_time costs net trips routes))
