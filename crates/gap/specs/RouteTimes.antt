-- The steps of the routes of vehicles, their sum, and a gap in parts per million.
use Rattle.std.specs.Prelude.{ℕ, zero, suc, ◌*◌, ◌/◌, List, Option, None, Some, slice_get, sum_by}
use Rattle.net_core.specs.Network.{numbers_below}
use Rattle.net_core.specs.declared.rows.LinkNo.{LinkNo}
use Rattle.net_core.specs.declared.rows.NetRows.{NetRows}
use Rattle.dta_model.specs.Plans.{link_numbers}
use Rattle.dta_model.specs.declared.trip.Trip.{Trip}
use Rattle.trip_costs.specs.Timings.{Timing, walk_time_by}
use Rattle.gap.specs.declared.measure.TheConstants.{PER_MILLION}

-- the steps of a vehicle's route from its departure, and 0 where it has no route
abbrev pub steps_of : Timing → NetRows → Option Trip → Option (Option (List LinkNo)) → ℕ
steps_of costs net None route = 0
steps_of costs net (Some trip) None = 0
steps_of costs net (Some trip) (Some None) = 0
steps_of costs net (Some trip) (Some (Some route)) =
    walk_time_by costs net trip.departure (link_numbers route)

-- those of the vehicle at a place of the list
abbrev pub route_time : Timing → NetRows → List Trip → List (Option (List LinkNo)) → ℕ → ℕ
route_time costs net trips routes v = steps_of costs net (slice_get trips v) (slice_get routes v)

-- the sum of a number over so many vehicles
abbrev pub over_vehicles : ℕ → (ℕ → ℕ) → ℕ
over_vehicles count number = sum_by number (numbers_below count)

-- the gap in parts per million of the least steps, rounded down; 0 where the least steps are 0
abbrev pub ppm_of : ℕ → ℕ → ℕ
ppm_of gap zero = 0
ppm_of gap (suc least) = PER_MILLION * gap / suc least
