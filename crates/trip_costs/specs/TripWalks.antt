-- The least time and the chosen walk by costs of whole trips, and by either costs.
use Rattle.std.specs.Prelude.{◌≡◌, ◌≤◌, ℕ, true, List, length}
use Rattle.std.specs.Cmp.Lexicographic.{slice_cmp}
use Rattle.std.specs.Ordering.{is_le, nat_cmp}
use Rattle.net_core.specs.declared.rows.NetRows.{NetRows}
use Rattle.dta_model.specs.Least.{IsChosen, IsLeast}
use Rattle.dta_model.specs.Walks.{IsWalk}
use Rattle.trip_costs.specs.Timings.{Links, Timing, Trips}
use Rattle.trip_costs.specs.TripCosts.{TravelCosts, time_by}

-- some walk that starts in a step has the time by trips, and none has less
pub record IsLeastTrip (costs : TravelCosts) (net : NetRows)
    (origin destination start time : ℕ) : Type 0 where
  pub some_walk : (walk : List ℕ)
      × IsWalk net origin destination walk × (time_by costs net start walk ≡ time)
  pub none_less : (walk : List ℕ)
      → IsWalk net origin destination walk → time ≤ time_by costs net start walk

-- a walk of the least time; of such walks one with the fewest links, and of these the first in the
-- order of their link numbers
pub record IsChosenTrip (costs : TravelCosts) (net : NetRows) (origin destination start : ℕ)
    (walk : List ℕ) : Type 0 where
  pub walks : IsWalk net origin destination walk
  pub none_less : (other : List ℕ) → IsWalk net origin destination other
      → time_by costs net start walk ≤ time_by costs net start other
  pub fewest : (other : List ℕ) → IsWalk net origin destination other
      → time_by costs net start other ≡ time_by costs net start walk
      → length walk ≤ length other
  pub first : (other : List ℕ) → IsWalk net origin destination other
      → time_by costs net start other ≡ time_by costs net start walk
      → length other ≡ length walk
      → is_le (slice_cmp nat_cmp walk other) ≡ true

-- the least time from zone to zone that starts in a step, and the chosen walk
abbrev pub IsLeastBy : Timing → NetRows → ℕ → ℕ → ℕ → ℕ → Type 0
IsLeastBy (Links at) = IsLeast at
IsLeastBy (Trips costs) = IsLeastTrip costs

abbrev pub IsChosenBy : Timing → NetRows → ℕ → ℕ → ℕ → List ℕ → Type 0
IsChosenBy (Links at) = IsChosen at
IsChosenBy (Trips costs) = IsChosenTrip costs
