-- How the walks of a start table are looked for.
use Rattle.std.specs.Prelude.{◌≡◌, ◌⊎◌, ℕ, ◌+◌, ◌<◌, false, List, length, map}
use Rattle.std.specs.Prelude.{Option, None, Some, get_or, is_none}
use Rattle.net_core.specs.declared.rows.LinkNo.{LinkNo}
use Rattle.time_routes.specs.declared.vehicles.Ask.{Ask}
use Rattle.trip_costs.specs.declared.loading_costs.Costs.{Costs}
use Rattle.route_flows.specs.Averages.{IsLastRenewal, KeepsFirst}
use Rattle.route_flows.specs.Selection.{first_number, or_other}

-- the walks of vehicles that have no other are asked for
abbrev pub asks_for_rest : List (Option (List LinkNo)) → List Ask
asks_for_rest walks = map (λ walk. record { least = false; walk = is_none walk }) walks

-- those that have no walk have others
pub record FillsIn (others old new : List (Option (List LinkNo))) : Type 0 where
  pub as_many : length new ≡ length old
  pub each : (v : ℕ) → v < length old
      → get_or new v None ≡ or_other (get_or old v None) (get_or others v None)

-- after which iteration a vehicle last takes a new route, or that it keeps its first one
abbrev pub TellsRenewal : Costs → ℕ → ℕ → Option ℕ → Type 0
TellsRenewal by v iterations None = KeepsFirst by v iterations
TellsRenewal by v iterations (Some k) = IsLastRenewal by v iterations k

-- the iteration of a vehicle's last new route, or the number of its first one
abbrev pub IsNumbered : Costs → ℕ → ℕ → Option (List LinkNo) → ℕ → Type 0
IsNumbered by v iterations walk n =
    ((k : ℕ) × (n ≡ k + 1) × IsLastRenewal by v iterations k)
    ⊎ (KeepsFirst by v iterations × (n ≡ first_number walk))
