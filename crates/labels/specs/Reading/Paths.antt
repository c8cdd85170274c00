-- Timed walks to a zone by what a walk reads, and the least of them.
use Rattle.std.specs.Prelude.{◌≡◌, ℕ, ◌+◌, ◌-◌, ◌≤◌, Bool, true, false, cond, ◌&&◌, ◌||◌, nat_eq}
use Rattle.std.specs.Prelude.{nat_lt, List, [], ◌∷◌, length, Option, None, Some}

-- what a walk reads: the time of a link by the step of its entry, the penalty of a turn that is
-- allowed, and
-- which links end at the zone
pub record Ways : Type 0 where
  pub at : ℕ → ℕ → ℕ
  pub turn : ℕ → ℕ → Option ℕ
  pub ends : ℕ → Bool

-- a time and more
abbrev pub later : ℕ → Option ℕ → Option ℕ
later more None = None
later more (Some time) = Some (more + time)

-- the time of the links that follow link l, which was entered at step e, where they go on to the
-- zone
unfoldable pub path_after : Ways → ℕ → ℕ → List ℕ → Option ℕ
path_after g l e [] = cond (g.ends l) (Some (g.at l e)) None
path_after g l e (b ∷ rest) = cond (g.ends l) None
    (elim (g.turn l b) as (λ _. Option ℕ) [
      | None ↦ None
      | Some wait ↦ later (g.at l e + wait) (path_after g b (e + (g.at l e + wait)) rest)
    ])

-- walks that start in a step, by the step in which each of their first links is then entered
module _ (g : Ways) (enter : ℕ → ℕ → ℕ) (begins : ℕ → Bool) (s : ℕ) where
  -- the time of a list of links as a walk, where it is one
  unfoldable pub path_time : List ℕ → Option ℕ
  path_time [] = None
  path_time (l ∷ rest) =
      cond (begins l) (later (enter l s - s) (path_after g l (enter l s) rest)) None

  -- some walk has the time, and no walk has less
  pub record IsLeastPath (m : ℕ) : Type 0 where
    pub some_walk : (w : List ℕ) × (path_time w ≡ Some m)
    pub no_less : (w : List ℕ) (k : ℕ) → path_time w ≡ Some k → m ≤ k

-- the first list comes before the second by the first number that differs, or is a prefix of it
abbrev pub lex_le : List ℕ → List ℕ → Bool
lex_le [] ys = true
lex_le (x ∷ xs) [] = false
lex_le (x ∷ xs) (y ∷ ys) = nat_lt x y || (nat_eq x y && lex_le xs ys)

module _ (g : Ways) (enter : ℕ → ℕ → ℕ) (begins : ℕ → Bool) (s : ℕ) where
  -- of the walks of the least time, the one that comes first
  pub record IsChosenPath (w : List ℕ) : Type 0 where
    pub least : (m : ℕ) × IsLeastPath g enter begins s m × (path_time g enter begins s w ≡ Some m)
    pub first : (v : List ℕ) → path_time g enter begins s v ≡ path_time g enter begins s w
        → lex_le w v ≡ true

  -- of the walks of the least time one with the fewest links, and of these the one that comes first
  pub record IsFewestPath (w : List ℕ) : Type 0 where
    pub least : (m : ℕ) × IsLeastPath g enter begins s m × (path_time g enter begins s w ≡ Some m)
    pub fewest : (v : List ℕ) → path_time g enter begins s v ≡ path_time g enter begins s w
        → length w ≤ length v
    pub first : (v : List ℕ) → path_time g enter begins s v ≡ path_time g enter begins s w
        → length v ≡ length w → lex_le w v ≡ true
