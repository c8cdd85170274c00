-- Sums over vehicles by shares of them, one share after another.
use Rattle.std.specs.Prelude.{◌≡◌, ℕ, ◌+◌, ◌*◌, ◌≤◌, ◌^◌, List, length, min, Option}
use Rattle.net_core.specs.declared.rows.LinkNo.{LinkNo}
use Rattle.dta_model.specs.Sound.{AreWalks}
use Rattle.trip_costs.specs.WalkCosts.{timing}
use Rattle.gap.specs.RouteTimes.{over_vehicles, route_time}
use Rattle.gap.specs.declared.timed_trips.TimedTrips.{TimedTrips}

-- where a share begins, and the one before ends
abbrev pub cut_at : ℕ → ℕ → ℕ → ℕ
cut_at size count share = min (share * size) count

-- the sum over the vehicles of a share
abbrev pub IsPart : (ℕ → ℕ) → ℕ → ℕ → ℕ → ℕ → Type 0
IsPart number size count share part =
    (over_vehicles (cut_at size count share) number + part
    ≡ over_vehicles (cut_at size count (share + 1)) number) × (part ≤ count * 2 ^ 82)

-- the steps of the route of the vehicle at a place of the list
abbrev pub steps_over : TimedTrips → List (Option (List LinkNo)) → ℕ → ℕ
steps_over timed routes = route_time (timing timed.costs) timed.net.now timed.trips.now routes

-- routes of trips: a walk for each that has a route
pub record AreRoutes (timed : TimedTrips) (routes : List (Option (List LinkNo))) : Type 0 where
  pub each : length routes ≡ length timed.trips.now
  pub walks : AreWalks timed.net.now timed.trips.now routes
