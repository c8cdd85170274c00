-- Ways on, told from where they lead, where link times stand still.
use Rattle.std.specs.Prelude.{◌≡◌, ℕ, ◌+◌, ◌<◌, ◌≤◌, ◌⊎◌, List, length, slice_index, slice_get}
use Rattle.std.specs.Prelude.{Some}
use Rattle.labels.specs.Filling.Labels.{most_span}
use Rattle.labels.specs.States.RouterWays.{onwards}
use Rattle.labels.specs.declared.filling.ways_back.WayBack.{WayBack}
use Rattle.labels.specs.declared.states.onward.Onward.{Onward}
use Rattle.labels.specs.declared.states.router.Router.{Router}

-- the steps of a way on where link times stand still
abbrev pub still_span : List ℕ → Onward → ℕ
still_span free w = w.wait + slice_index free w.link

-- a way back is a way on of the state that it leaves
pub record IsWayBack (r : Router) (free : List ℕ) (b : WayBack) : Type 0 where
  pub place : ℕ
  pub way : Onward
  pub stands : slice_get (onwards r b.from) place ≡ Some way
  pub leads : b.to ≡ way.to
  pub takes : b.span ≡ still_span free way
  pub from_inside : b.from < length r.zones.items
  pub to_inside : b.to < length r.zones.items
  pub short : b.span ≤ most_span

-- some way back tells a way on of a state
pub record IsToldBack (free : List ℕ) (backs : List WayBack) (s : ℕ) (w : Onward) : Type 0 where
  pub place : ℕ
  pub back : WayBack
  pub stands : slice_get backs place ≡ Some back
  pub leaves : back.from ≡ s
  pub leads : back.to ≡ w.to
  pub takes : back.span ≡ still_span free w

-- the first `mark` ways back hold all of the first `count` that lead to a state, and the last of
-- them does
pub record HoldAllTo (backs : List WayBack) (count s mark : ℕ) : Type 0 where
  pub within : mark ≤ count
  pub all : (k : ℕ) (b : WayBack) → k < count → slice_get backs k ≡ Some b → b.to ≡ s → k < mark
  pub last : (k : ℕ) (b : WayBack) → k + 1 ≡ mark → slice_get backs k ≡ Some b → b.to ≡ s

-- a way on of one of the first states, or one of the first ways on of the next state
abbrev pub IsAmongFirst : ℕ → ℕ → ℕ → ℕ → Type 0
IsAmongFirst count part s k = (s < count) ⊎ ((s ≡ count) × (k < part))

-- the ways back of the first states, and the first ways back of the next one; how many of them
-- hold all that lead to each state
pub record AreWaysBack (r : Router) (free : List ℕ) (backs : List WayBack) (lasts : List ℕ)
    (count part : ℕ) : Type 0 where
  pub sound : (k : ℕ) (b : WayBack) → slice_get backs k ≡ Some b → IsWayBack r free b
  pub told : (s k : ℕ) (w : Onward) → IsAmongFirst count part s k
      → slice_get (onwards r s) k ≡ Some w → IsToldBack free backs s w
  pub chained : (k : ℕ) (b : WayBack) → slice_get backs k ≡ Some b → HoldAllTo backs k b.to b.before
  pub ended : (s : ℕ) → s < length lasts → HoldAllTo backs (length backs) s (slice_index lasts s)
  pub many : length lasts ≡ length r.zones.items
