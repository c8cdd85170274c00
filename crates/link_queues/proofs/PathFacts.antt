-- A path in which entry steps take the places of links.
use Rattle.std.specs.Prelude.{◌≢◌, ◌<◌, ℕ, zero, suc, List, [], ◌∷◌, drop, length, refl}
use Rattle.std.proofs.Common.{arith}

-- where something is ahead, its place is one of the path
pub place_within : (k : ℕ) (xs : List ℕ) → drop k xs ≢ [] → k < length xs
place_within zero [] some = absurd (some refl)
place_within zero (x ∷ xs) some = omega arith
place_within (suc k) [] some = absurd (some refl)
place_within (suc k) (x ∷ xs) some = omega (arith, place_within k xs some)
