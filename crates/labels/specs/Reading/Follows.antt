-- Walks that follow labels by the least link at each choice.
use Rattle.std.specs.Prelude.{◌≡◌, ℕ, ◌+◌, ◌<◌, true, false, List, [], ◌∷◌, Option, Some}
use Rattle.labels.specs.Reading.Paths.{Ways}

module _ (g : Ways) (label : ℕ → ℕ → Option ℕ) where
  -- the choice of the turn to b: it gives the label, and no turn to a link before b does
  pub record Choice (l e b : ℕ) : Type 0 where
    pub goes : g.ends l ≡ false
    pub wait : ℕ
    pub rest : ℕ
    pub way : g.turn l b ≡ Some wait
    pub next : label b (e + (g.at l e + wait)) ≡ Some rest
    pub gives : label l e ≡ Some (g.at l e + wait + rest)
    pub first : (c w k : ℕ) → c < b → g.turn l c ≡ Some w → label c (e + (g.at l e + w)) ≡ Some k
        → g.at l e + wait + rest < g.at l e + w + k

  -- a walk that follows the labels by the least link at each choice
  abbrev pub Follows : ℕ → ℕ → List ℕ → Type 0
  Follows l e [] = g.ends l ≡ true
  Follows l e (b ∷ rest) = (c : Choice l e b) × Follows b (e + (g.at l e + c.wait)) rest
