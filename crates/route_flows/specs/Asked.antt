-- What is asked before routes change, and which routes are renewed.
use Rattle.std.specs.Prelude.{◌≡◌, ℕ, ◌<◌, Bool, true, false, List, length, Option, Some, slice_get}
use Rattle.net_core.specs.declared.rows.LinkNo.{LinkNo}
use Rattle.gap.specs.Gap.{has_route}
use Rattle.trip_costs.specs.LoadingCosts.{kind_of}
use Rattle.trip_costs.specs.WalkCosts.{timing}
use Rattle.route_flows.specs.Selection.{renews}
use Rattle.route_flows.specs.declared.change.Change.{Change}
use Rattle.time_routes.specs.declared.vehicles.Ask.{Ask}

-- the walks of the first vehicles that are selected are asked for, and the least times of those
-- that have routes
pub record AreAsked (selected : ℕ → Bool) (routes : List (Option (List LinkNo)))
    (count : ℕ) (asks : List Ask) : Type 0 where
  pub as_many : length asks ≡ count
  pub each : (v : ℕ) → v < count
      → slice_get asks v ≡ Some (record { least = has_route routes v; walk = selected v })

-- of the first vehicles those that are selected have their walks, and all others their old routes
pub record Renews (selected : ℕ → Bool) (walks : List (Option (List LinkNo))) (count : ℕ)
    (old new : List (Option (List LinkNo))) : Type 0 where
  pub as_many : length new ≡ length old
  pub renewed : (v : ℕ) → v < count → selected v ≡ true → slice_get new v ≡ slice_get walks v
  pub others : (v : ℕ) → selected v ≡ false → slice_get new v ≡ slice_get old v

-- whether a vehicle takes its chosen walk in a change
abbrev pub takes : Change → ℕ → Bool
takes change v = renews (kind_of (timing change.costs)) change.k v
