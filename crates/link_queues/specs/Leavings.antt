-- How many left a link in each of the last steps, the latest first.
use Rattle.net_core.specs.Network.{numbers_below}
use Rattle.std.specs.Prelude.{ℕ, List, ◌∷◌, length, map, take}

-- so many steps in which nobody left
abbrev pub no_leavings : ℕ → List ℕ
no_leavings count = map (λ i. 0) (numbers_below count)

-- one more step comes first, and the oldest is dropped
abbrev pub pushed : ℕ → List ℕ → List ℕ
pushed left earlier = take (length earlier) (left ∷ earlier)
