-- The list of a search for the walk of the fewest links.
use Rattle.std.specs.Prelude.{◌≡◌, ◌≢◌, ℕ, ◌+◌, ◌<◌, ◌≤◌, ◌⊎◌, true, false, List, [], ◌∷◌}
use Rattle.std.specs.Prelude.{◌++◌, length, get_or, Option, Some, slice_get}
use Rattle.labels.specs.Filling.Rests.{span, over}
use Rattle.labels.specs.Reading.FirstLinks.{first_label}
use Rattle.labels.specs.Reading.Paths.{lex_le}
use Rattle.labels.specs.declared.reading.reached.Reached.{Reached}
use Rattle.labels.specs.declared.states.onward.Onward.{Onward}

-- shorter, or as long and not after it
abbrev pub Before : List ℕ → List ℕ → Type 0
Before a b = (length a < length b) ⊎ ((length a ≡ length b) × (lex_le a b ≡ true))

-- shorter, or as long and before it
abbrev pub StrictlyBefore : List ℕ → List ℕ → Type 0
StrictlyBefore a b = (length a < length b) ⊎ ((length a ≡ length b) × (lex_le b a ≡ false))

-- the links to each place of a list: those to the place before it and its own; where no place of
-- the list is before it, its own alone
abbrev pub paths_after : List (List ℕ) → List Reached → List (List ℕ)
paths_after known [] = known
paths_after known (r ∷ others) =
    paths_after (known ++ (get_or known r.before [] ++ r.link ∷ []) ∷ []) others

-- the links to a place of a list
abbrev pub path_to : List Reached → ℕ → List ℕ
path_to reached place = get_or (paths_after [] reached) place []

-- the link at a place of a list ends in a state at a step
abbrev pub EndsAt : List Reached → ℕ → ℕ → ℕ → Type 0
EndsAt reached state step place = (q : Reached) × (slice_get reached place ≡ Some q)
    × (q.state ≡ state) × (q.step ≡ step)

-- one link more at the end of a list
pub record Puts (old new : List Reached) (l s e p : ℕ) : Type 0 where
  pub last : Reached
  pub grown : new ≡ old ++ last ∷ []
  pub link : last.link ≡ l
  pub state : last.state ≡ s
  pub step : last.step ≡ e
  pub before : last.before ≡ p

module _ (at : ℕ → ℕ → ℕ) (far : ℕ) (rest : ℕ → ℕ → ℕ) (place step left : ℕ) where
  -- a list after a way on from a place was tried: its link is new at the end of the list where it
  -- meets what is left, unless a link of the list ends in the same state at the same step
  abbrev pub IsTried : Onward → List Reached → List Reached → Type 0
  IsTried w old new = ((over at far rest step w ≢ left) × (new ≡ old))
      ⊎ ((over at far rest step w ≡ left) × (((new ≡ old)
      × ((p : ℕ) × EndsAt old w.to (step + span at step w) p))
      ⊎ Puts old new w.link w.to (step + span at step w) place))

  -- a list after the first ways on from a place were tried
  pub record IsGoneOn (ways : List Onward) (count : ℕ) (old new : List Reached) : Type 0 where
    pub kept : (more : List Reached) × (new ≡ old ++ more)
    pub added : (i : ℕ) (q : Reached) → length old ≤ i → slice_get new i ≡ Some q
        → (q.before ≡ place) × ((k : ℕ) × (w : Onward) × (k < count) × (slice_get ways k ≡ Some w)
        × (over at far rest step w ≡ left) × (q.link ≡ w.link) × (q.state ≡ w.to)
        × (q.step ≡ step + span at step w))
    pub rising : (i j : ℕ) (a b : Reached) → length old ≤ i → i < j → slice_get new i ≡ Some a
        → slice_get new j ≡ Some b → a.link < b.link
    pub covers : (k : ℕ) (w : Onward) → k < count → slice_get ways k ≡ Some w
        → over at far rest step w ≡ left → (j : ℕ) × (q : Reached) × (slice_get new j ≡ Some q)
        × (q.state ≡ w.to) × (q.step ≡ step + span at step w)
        × (length old ≤ j → q.link ≤ w.link)

-- a list after a first link was tried: it is new at the end where the time is met over it
abbrev pub IsTriedFirst : (ℕ → ℕ → ℕ) → (ℕ → ℕ → Option ℕ) → (ℕ → ℕ → ℕ) → (ℕ → ℕ) → ℕ → ℕ → ℕ
    → List Reached → List Reached → Type 0
IsTriedFirst at label enter state s m l old new =
    ((first_label enter label s l ≢ Some m) × (new ≡ old))
    ⊎ ((first_label enter label s l ≡ Some m)
    × Puts old new l (state l) (enter l s + at l (enter l s)) (length old))

-- a list of those of the first links by which a walk takes the least time
pub record AreStarted (at : ℕ → ℕ → ℕ) (label : ℕ → ℕ → Option ℕ) (enter : ℕ → ℕ → ℕ)
    (state : ℕ → ℕ) (firsts : List ℕ) (s m count : ℕ) (reached : List Reached) : Type 0 where
  pub added : (i : ℕ) (q : Reached) → slice_get reached i ≡ Some q → (i ≤ q.before)
      × (q.state ≡ state q.link) × (q.step ≡ enter q.link s + at q.link (enter q.link s))
      × (first_label enter label s q.link ≡ Some m)
      × ((k : ℕ) × (k < count) × (slice_get firsts k ≡ Some q.link))
  pub rising : (i j : ℕ) (a b : Reached) → i < j → slice_get reached i ≡ Some a
      → slice_get reached j ≡ Some b → a.link < b.link
  pub covers : (k l : ℕ) → k < count → slice_get firsts k ≡ Some l
      → first_label enter label s l ≡ Some m
      → (j : ℕ) × (q : Reached) × (slice_get reached j ≡ Some q) × (q.link ≡ l)
