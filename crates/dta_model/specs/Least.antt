-- The least time from zone to zone over a table of link times, and the walk that is chosen. All
-- walks count, also those that repeat nodes and links.
use Rattle.std.specs.Prelude.{◌≡◌, ◌≤◌, ℕ, true, List}
use Rattle.std.specs.Cmp.Lexicographic.{slice_cmp}
use Rattle.std.specs.Ordering.{is_le, nat_cmp}
use Rattle.net_core.specs.declared.rows.NetRows.{NetRows}
use Rattle.dta_model.specs.TimedWalks.{walk_time}
use Rattle.dta_model.specs.Walks.{IsWalk}

-- some walk that starts in a step has the time, and none has less
pub record IsLeast (at : ℕ → ℕ → ℕ) (net : NetRows)
    (origin destination start time : ℕ) : Type 0 where
  pub some_walk : (walk : List ℕ)
      × IsWalk net origin destination walk × (walk_time at net start walk ≡ time)
  pub none_less : (walk : List ℕ)
      → IsWalk net origin destination walk → time ≤ walk_time at net start walk

-- no list of links is a walk from the origin to the destination
abbrev pub HaveNoWalk : NetRows → ℕ → ℕ → Type 0
HaveNoWalk net origin destination = (walk : List ℕ) → IsWalk net origin destination walk → ⊥

-- a walk of the least time; of such walks it is the first in the order of their link numbers
pub record IsChosen (at : ℕ → ℕ → ℕ) (net : NetRows) (origin destination start : ℕ)
    (walk : List ℕ) : Type 0 where
  pub walks : IsWalk net origin destination walk
  pub none_less : (other : List ℕ) → IsWalk net origin destination other
      → walk_time at net start walk ≤ walk_time at net start other
  pub first : (other : List ℕ) → IsWalk net origin destination other
      → walk_time at net start other ≡ walk_time at net start walk
      → is_le (slice_cmp nat_cmp walk other) ≡ true
