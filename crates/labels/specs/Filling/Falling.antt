-- What is left from states to a zone, while it falls to what it ought to be.
use Rattle.std.specs.Prelude.{◌≡◌, ℕ, ◌+◌, ◌*◌, ◌<◌, ◌≤◌, ◌⊎◌, ◌∷◌, true, cond, nat_eq, List}
use Rattle.std.specs.Prelude.{length, sum, All, slice_index, slice_index_or, slice_get, slice_set}
use Rattle.std.specs.Prelude.{Some, Contains, IsPermutation}
use Rattle.std.specs.declared.cmp.Reverse.{Reverse}
use Rattle.labels.specs.Filling.Labels.{far}
use Rattle.labels.specs.Filling.FreeFlow.{AreAbove, AreShort}
use Rattle.labels.specs.States.RouterWays.{is_own}
use Rattle.labels.specs.Filling.WaysBack.{AreWaysBack}
use Rattle.labels.specs.declared.filling.free_flow.Backward.{Backward}
use Rattle.labels.specs.declared.filling.free_flow.Reached.{Reached}
use Rattle.labels.specs.declared.filling.ways_back.WayBack.{WayBack}
use Rattle.labels.specs.declared.states.router.Router.{Router}

-- a state with what is left from it, as it waits
abbrev pub waiting : ℕ → ℕ → Reverse Reached
waiting left s = record { 0 = record { left = left; state = s } }

-- a state waits with what is left from it now
abbrev pub Waits : List (Reverse Reached) → List ℕ → ℕ → Type 0
Waits heap tail s = Contains heap (waiting (slice_index tail s) s)

-- where a way begins no more is left than over the way
abbrev pub IsEased : List ℕ → WayBack → Type 0
IsEased tail b = slice_index tail b.from ≤ slice_index tail b.to + b.span

-- nothing is left from the first states that are in the zone
abbrev pub AreAtZone : Router → ℕ → List ℕ → ℕ → Type 0
AreAtZone r zone tail count = (s : ℕ) → s < count → is_own r zone s ≡ true
    → slice_index_or tail s 0 ≡ 0

-- nothing is below what it ought to be, and nothing is left at the zone as far as its states are
-- known; each way is eased, or waits where it leads, or is one of the first `mark` ways and leads
-- to the state that is looked at
pub record IsFalling (r : Router) (free : List ℕ) (zone : ℕ) (backs : List WayBack)
    (heap : List (Reverse Reached)) (tail : List ℕ) (begun seen mark : ℕ) : Type 0 where
  pub above : AreAbove free r zone tail
  pub short : AreShort tail
  pub low : All (λ x. x ≤ far) tail
  pub many : length tail ≡ length r.zones.items
  pub inside : All (λ x. x.0.state < length tail) heap
  pub at_zone : AreAtZone r zone tail begun
  pub eased : (k : ℕ) (b : WayBack) → slice_get backs k ≡ Some b
      → IsEased tail b ⊎ Waits heap tail b.to ⊎ ((b.to ≡ seen) × (k < mark))

-- so it is in a search backwards
abbrev pub Falls : Backward → List (Reverse Reached) → List ℕ → ℕ → ℕ → ℕ → Type 0
Falls b heap tail begun seen mark = IsFalling b.router.now b.free.now b.zone b.back.now.ways.items
    heap tail begun seen mark

-- its ways back are those of all states
abbrev pub AreAllBack : Backward → Type 0
AreAllBack b = AreWaysBack b.router.now b.free.now b.back.now.ways.items b.back.now.lasts.items
    (length b.router.now.zones.items) 0

-- how many ways back hold all that lead to a state that waited, if no less is left from it now
abbrev pub mark_of : List ℕ → List ℕ → Reached → ℕ
mark_of lasts tail x =
    cond (nat_eq x.left (slice_index tail x.state)) (slice_index lasts x.state) 0

-- what is left from a state is lowered to a number, and the state waits, if the number is less
pub record IsLowered (old : List ℕ) (before : List (Reverse Reached)) (s left : ℕ) (new : List ℕ)
    (after : List (Reverse Reached)) : Type 0 where
  pub falls : left < slice_index old s
      → (new ≡ slice_set old s left) × IsPermutation (waiting left s ∷ before) after
  pub stays : slice_index old s ≤ left → (new ≡ old) × (after ≡ before)

-- how much there is to do at most: each fall may have one more state wait
abbrev pub work : List (Reverse Reached) → List ℕ → ℕ
work heap tail = 2 * sum tail + length heap
