-- What each way on takes in the steps of a bucket.
use Rattle.std.specs.Prelude.{◌≡◌, ◌⊎◌, ℕ, ◌<◌, List, length, slice_index_or, All, Contains}
use Rattle.trip_costs.specs.WalkCosts.{IsLevel}
use Rattle.trip_costs.specs.declared.walk_costs.WalkCosts.{WalkCosts}
use Rattle.labels.specs.Filling.Rests.{span}
use Rattle.labels.specs.declared.states.onward.Onward.{Onward}
use Rattle.labels.specs.declared.states.spans.Span.{Span}

-- the steps of a way on, and where it leads
abbrev pub IsSpan : (ℕ → ℕ → ℕ) → ℕ → Onward → Span → Type 0
IsSpan at e w s = (s.time ≡ span at e w) × (s.to ≡ w.to)

-- the first spans are those of the ways on
pub record IsSpansTo (at : ℕ → ℕ → ℕ) (e : ℕ) (ways : List Onward) (spans : List Span)
    (count : ℕ) : Type 0 where
  pub as_many : length spans ≡ length ways
  pub each : (k : ℕ) (d : Onward) (c : Span) → k < count
      → IsSpan at e (slice_index_or ways k d) (slice_index_or spans k c)

abbrev pub IsSpans : (ℕ → ℕ → ℕ) → ℕ → List Onward → List Span → Type 0
IsSpans at e ways spans = IsSpansTo at e ways spans (length ways)

-- a way on doesn't wait, and its link takes as many steps in each step of a bucket
abbrev pub IsStill : WalkCosts → ℕ → Onward → Type 0
IsStill costs bucket w = (w.wait ≡ 0) × IsLevel costs w.link bucket

-- only places of ways on are listed, and of the first ways on all that aren't still in a bucket
pub record AreMovingTo (costs : WalkCosts) (bucket : ℕ) (ways : List Onward) (moving : List ℕ)
    (count : ℕ) : Type 0 where
  pub inside : All (λ k. k < length ways) moving
  pub others : (k : ℕ) (d : Onward) → k < count
      → Contains moving k ⊎ IsStill costs bucket (slice_index_or ways k d)

abbrev pub AreMoving : WalkCosts → ℕ → List Onward → List ℕ → Type 0
AreMoving costs bucket ways moving = AreMovingTo costs bucket ways moving (length ways)

-- each span is that of its way on, unless its place is listed
pub record AreSpansBut (at : ℕ → ℕ → ℕ) (e : ℕ) (ways : List Onward) (listed : List ℕ)
    (spans : List Span) : Type 0 where
  pub as_many : length spans ≡ length ways
  pub each : (k : ℕ) (d : Onward) (c : Span) → k < length ways
      → Contains listed k ⊎ IsSpan at e (slice_index_or ways k d) (slice_index_or spans k c)

-- each way on takes time at a step, and less than what stands for no walk
abbrev pub AreShortAt : (ℕ → ℕ → ℕ) → ℕ → ℕ → List Onward → Type 0
AreShortAt at beyond e ways = All (λ w. (0 < span at e w) × (span at e w < beyond)) ways

-- spans take time, and less than what stands for no walk, and lead to one of so many states
abbrev pub AreShortSpans : ℕ → ℕ → List Span → Type 0
AreShortSpans beyond states spans =
    All (λ s. (0 < s.time) × (s.time < beyond) × (s.to < states)) spans
