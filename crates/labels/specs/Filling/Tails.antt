-- Least free-flow times to zones, and when all that is left over them fits fewer bits.
use Rattle.std.specs.Prelude.{◌≡◌, ℕ, ◌+◌, ◌*◌, ◌<◌, ◌≤◌, min, cond, nat_lt, List, [], length}
use Rattle.std.specs.Prelude.{get_or, slice_index, All}
use Rattle.net_core.specs.declared.rows.TheConstants.{MOST_LINKS}
use Rattle.labels.specs.Filling.Labels.{far, most_left, most_span}
use Rattle.labels.specs.Filling.Rests.{span}
use Rattle.labels.specs.Filling.FreeFlow.{AreSettled}
use Rattle.labels.specs.declared.states.router.Router.{Router}

-- a number below what stands for no walk in fewer bits, or what stands for no walk
abbrev pub widened : ℕ → ℕ → ℕ
widened beyond x = cond (nat_lt x beyond) x far

-- the least free-flow times to a zone, none of which takes more than a number
pub record IsTail (free : List ℕ) (r : Router) (zone most : ℕ) (tail : List ℕ) : Type 0 where
  pub as_many : length tail ≡ length r.zones.items
  pub settled : AreSettled free r zone tail
  pub near : (s : ℕ) → s < length tail → slice_index tail s < far → slice_index tail s ≤ most

-- those of each zone of a list
pub record AreTails (free : List ℕ) (r : Router) (most : ℕ) (tails : List (List ℕ))
    (zones : List ℕ) : Type 0 where
  pub as_many : length tails ≡ length zones
  pub each : (j : ℕ) → j < length tails
      → IsTail free r (slice_index zones j) most (get_or tails j [])

-- the first row holds a tail, in fewer bits
abbrev pub IsPut : ℕ → List ℕ → List ℕ → Type 0
IsPut beyond labels tail = (s : ℕ) → s < length tail
    → slice_index labels s ≡ min (slice_index tail s) beyond

-- no way on takes longer
abbrev pub AreWithin : (ℕ → ℕ → ℕ) → Router → ℕ → Type 0
AreWithin at r longest = (e : ℕ) → All (λ w. span at e w ≤ longest) r.ways.items

-- the most that is left in free flow: a long span for each state
abbrev pub most_tail : ℕ
most_tail = MOST_LINKS * most_span

-- whatever is left stays below what stands for no walk, and so does a way on before it
pub record FitsBelow (at : ℕ → ℕ → ℕ) (horizon : ℕ) (r : Router) (most beyond : ℕ)
    : Type 0 where
  pub longest : ℕ
  pub within : AreWithin at r longest
  pub fits : horizon + 2 * longest + most < beyond
  pub near : horizon + 2 * longest + most ≤ most_left
