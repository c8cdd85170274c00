-- What is left from where a link ends, and how it fits together.
use Rattle.std.specs.Prelude.{◌≡◌, ℕ, ◌+◌, ◌<◌, Bool, true, cond, nat_lt, min, List, []}
use Rattle.std.specs.Prelude.{◌∷◌, Option, Some, None, slice_get}
use Rattle.labels.specs.declared.states.onward.Onward.{Onward}
use Rattle.labels.specs.Reading.Paths.{Ways}

-- the steps until the link of a way on has ended, from a step
abbrev pub span : (ℕ → ℕ → ℕ) → ℕ → Onward → ℕ
span at e w = w.wait + at w.link (e + w.wait)

module _ (at : ℕ → ℕ → ℕ) (far : ℕ) (rest : ℕ → ℕ → ℕ) where
  -- the time over one way on
  unfoldable pub over : ℕ → Onward → ℕ
  over e w = rest w.to (e + span at e w) + span at e w

  -- the least over some ways on, at most what stands for no walk
  unfoldable pub least_over : ℕ → List Onward → ℕ
  least_over e [] = far
  least_over e (w ∷ ws) = min (over e w) (least_over e ws)

-- the ways on are the allowed turns, in any state where a link ends
pub record AreTurns (g : Ways) (links : ℕ) (own : ℕ → Bool) (state : ℕ → ℕ) (ways : ℕ → List Onward)
    (states : ℕ) : Type 0 where
  pub narrow : (l : ℕ) → l < links → state l < states
  pub ends : (l : ℕ) → l < links → own (state l) ≡ g.ends l
  pub listed : (l b wait : ℕ) → g.turn l b ≡ Some wait
      → (k : ℕ) × (w : Onward) × (slice_get (ways (state l)) k ≡ Some w) × (w.link ≡ b)
      × (w.wait ≡ wait) × (w.to ≡ state b)
  pub allowed : (l k : ℕ) (w : Onward) → l < links → slice_get (ways (state l)) k ≡ Some w
      → (g.turn l w.link ≡ Some w.wait) × (w.to ≡ state w.link)
  pub end_within : (l : ℕ) → g.ends l ≡ true → l < links
  pub turn_within : (l b wait : ℕ) → g.turn l b ≡ Some wait → (l < links) × (b < links)

-- the way on that gives what is left, and no way on before it does
pub record IsPick (at : ℕ → ℕ → ℕ) (far : ℕ) (rest : ℕ → ℕ → ℕ) (ws : List Onward) (e left : ℕ)
    (w : Onward) : Type 0 where
  pub place : ℕ
  pub stands : slice_get ws place ≡ Some w
  pub gives : over at far rest e w ≡ left
  pub before : (k : ℕ) (v : Onward) → k < place → slice_get ws k ≡ Some v
      → left < over at far rest e v

-- ways on stand by the numbers of their links
abbrev pub AreOrdered : List Onward → Type 0
AreOrdered ws = (i k : ℕ) (v w : Onward) → i < k → slice_get ws i ≡ Some v → slice_get ws k ≡ Some w
    → v.link < w.link

-- the time of a link that is entered at a step and of what is left then, where a walk goes on from
-- it
unfoldable pub label_of : (ℕ → ℕ → ℕ) → ℕ → (ℕ → ℕ) → (ℕ → ℕ → ℕ) → ℕ → ℕ → ℕ → Option ℕ
label_of at links state rest far l e = cond (nat_lt l links)
    (cond (nat_lt (rest (state l) (e + at l e)) far) (Some (at l e + rest (state l) (e + at l e)))
    None) None
