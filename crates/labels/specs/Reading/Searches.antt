-- How far a search for the walk of the fewest links has come.
use Rattle.std.specs.Prelude.{◌≡◌, ℕ, ◌+◌, ◌<◌, ◌≤◌, Bool, true, false, cond, ◌||◌, nat_eq, List}
use Rattle.std.specs.Prelude.{[], ◌∷◌, ◌++◌, length, Option, None, Some, slice_get}
use Rattle.labels.specs.Filling.Labels.{far}
use Rattle.labels.specs.Reading.Fewest.{Before, StrictlyBefore, path_to}
use Rattle.labels.specs.Reading.Paths.{Ways, later, path_after, path_time}
use Rattle.labels.specs.States.RouterWays.{is_own, state_of}
use Rattle.labels.specs.declared.reading.reached.Reached.{Reached}
use Rattle.labels.specs.declared.states.router.Router.{Router}

-- the time from where a link ends, at a step, where some links follow
unfoldable pub onward : Ways → ℕ → ℕ → List ℕ → Option ℕ
onward g l t [] = cond (g.ends l) (Some 0) None
onward g l t (b ∷ others) = cond (g.ends l) None
    (elim (g.turn l b) as (λ _. Option ℕ) [
      | None ↦ None
      | Some wait ↦ later wait (path_after g b (t + wait) others)
    ])

-- whether a number is in a list
abbrev pub is_among : List ℕ → ℕ → Bool
is_among [] l = false
is_among (x ∷ xs) l = nat_eq x l || is_among xs l

module _ (g : Ways) (rest : ℕ → ℕ → ℕ) (r : Router) (enter : ℕ → ℕ → ℕ) (firsts : List ℕ)
    (s m : ℕ) where
  -- the links to a place begin a walk of the time m: who goes on from there in what is left takes
  -- that time
  pub record IsBegun (path : List ℕ) (q : Reached) : Type 0 where
    pub link : q.link < length r.states.items
    pub state : q.state ≡ state_of r q.link
    pub near : rest q.state q.step < far
    pub soon : q.step + rest q.state q.step ≤ s + m
    pub short : length path + rest q.state q.step ≤ m
    pub goes : (others : List ℕ) → onward g q.link q.step others ≡ Some (rest q.state q.step)
        → path_time g enter (is_among firsts) s (path ++ others) ≡ Some m

  -- from a place that the search has not gone on from some links lead to the zone, and the walk
  -- by them does not come after a walk
  abbrev pub Leads : List Reached → ℕ → List ℕ → Type 0
  Leads reached head walk = (i : ℕ) × (q : Reached) × (others : List ℕ)
      × (slice_get reached i ≡ Some q) × (head ≤ i)
      × (onward g q.link q.step others ≡ Some (rest q.state q.step))
      × Before (path_to reached i ++ others) walk

  -- the search has gone on from the places before head; those from there up to the next are of so
  -- many links, and later ones of one more
  pub record IsSearched (reached : List Reached) (head next count : ℕ) : Type 0 where
    pub within : (head ≤ next) × (next ≤ length reached)
    pub begun : (i : ℕ) (q : Reached) → slice_get reached i ≡ Some q
        → IsBegun (path_to reached i) q
    pub earlier : (i : ℕ) → i < next → length (path_to reached i) ≤ count
    pub here : (i : ℕ) → head ≤ i → i < next → length (path_to reached i) ≡ count
    pub later_ones : (i : ℕ) → next ≤ i → i < length reached
        → length (path_to reached i) ≡ count + 1
    pub sorted : (i j : ℕ) → i < j → j < length reached
        → StrictlyBefore (path_to reached i) (path_to reached j)
    pub coming : (i j c : ℕ) → i < length reached → head ≤ j → j < next
        → StrictlyBefore (path_to reached i) (path_to reached j ++ c ∷ [])
    pub leads : (walk : List ℕ) → path_time g enter (is_among firsts) s walk ≡ Some m
        → Leads reached head walk

-- no link of a part of a list ends in the zone
abbrev pub NoneEnds : Router → ℕ → List Reached → ℕ → ℕ → Type 0
NoneEnds r zone reached from to = (i : ℕ) (q : Reached) → from ≤ i → i < to
    → slice_get reached i ≡ Some q → is_own r zone q.state ≡ false

-- the first place of a part of a list whose link ends in the zone
abbrev pub FirstEnds : Router → ℕ → List Reached → ℕ → ℕ → Option ℕ → Type 0
FirstEnds r zone reached from to None = NoneEnds r zone reached from to
FirstEnds r zone reached from to (Some place) = (from ≤ place) × (place < to)
    × NoneEnds r zone reached from place
    × ((q : Reached) → slice_get reached place ≡ Some q → is_own r zone q.state ≡ true)
