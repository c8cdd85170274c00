-- When a loading is sound.
use Rattle.std.specs.Prelude.{◌≡◌, ◌≢◌, ℕ, ◌<◌, ◌≤◌, ⊤, List, length, map, All, Option, Some}
use Rattle.std.specs.Prelude.{slice_get}
use Rattle.std.specs.List.Sorted.{IsNonDecreasingBy}
use Rattle.fixed_units.specs.declared.link.TheConstants.{MOST_STEP}
use Rattle.net_core.specs.Network.{IsNet, numbers_below}
use Rattle.net_core.specs.declared.rows.LinkNo.{LinkNo}
use Rattle.net_core.specs.declared.rows.NetRows.{NetRows}
use Rattle.dta_model.specs.Plans.{link_numbers}
use Rattle.dta_model.specs.Walks.{IsWalk}
use Rattle.dta_model.specs.declared.loading.TheConstants.{MOST_HORIZON}
use Rattle.dta_model.specs.declared.plan.Plan.{Plan}
use Rattle.dta_model.specs.declared.queue.Queue.{Queue}
use Rattle.dta_model.specs.declared.queue.Queue.TheVariants as queue
use Rattle.dta_model.specs.declared.queue.TheConstants.{MOST_WAVE}
use Rattle.dta_model.specs.declared.trip.TheConstants.{MOST_TRIPS}
use Rattle.dta_model.specs.declared.trip.Trip.{Trip}

-- trips numbered in order from 0, each between two zones, and no more than there may be
pub record AreTrips (trips : List Trip) : Type 0 where
  pub few : length trips ≤ MOST_TRIPS
  pub numbered : map (λ trip. trip.number) trips ≡ numbers_below (length trips)
  pub apart : All (λ trip. trip.origin ≢ trip.destination) trips

-- a route, where a vehicle has one, is a walk between the zones of its trip
abbrev pub AreWalks : NetRows → List Trip → List (Option (List LinkNo)) → Type 0
AreWalks net trips routes =
    (v : ℕ) (trip : Trip) (route : List LinkNo) → slice_get trips v ≡ Some trip
    → slice_get routes v ≡ Some (Some route)
    → IsWalk net trip.origin trip.destination (link_numbers route)

-- a queue whose backward wave, if it has one, is in range
abbrev pub IsQueue : Queue → Type 0
IsQueue queue.Point = ⊤
IsQueue queue.Spatial = ⊤
IsQueue (queue.Newell wave) = (1 ≤ wave) × (wave ≤ MOST_WAVE)

-- a plan of a sound loading
pub record IsSound (p : Plan) : Type 0 where
  pub net : IsNet p.net
  -- a step is of 1 to MOST_STEP seconds, and there are 1 to MOST_HORIZON steps
  pub delta_least : 1 ≤ p.delta
  pub delta_most : p.delta ≤ MOST_STEP
  pub horizon_least : 1 ≤ p.horizon
  pub horizon_most : p.horizon ≤ MOST_HORIZON
  pub queue : IsQueue p.queue
  pub trips : AreTrips p.trips
  -- departures don't fall, and are below the horizon
  pub rising : IsNonDecreasingBy (λ trip. trip.departure) p.trips
  pub early : All (λ trip. trip.departure < p.horizon) p.trips
  -- there are as many routes as trips
  pub each : length p.routes ≡ length p.trips
  pub walks : AreWalks p.net p.trips p.routes
