-- The last of a list.
use Rattle.std.specs.List.{last_or}
use Rattle.std.specs.Prelude.{◌≡◌, List, [], ◌∷◌, IsNone, None, Some, refl}

some_last : {X : Type 0} (x : X) (xs : List X) → IsNone (last_or (Some x) xs) → ⊥
some_last x [] h = cc
some_last x (y ∷ ys) h = some_last y ys h

pub none_last : {X : Type 0} (xs : List X) → IsNone (last_or None xs) → xs ≡ []
none_last [] h = refl
none_last (x ∷ xs) h = absurd (some_last x xs h)

pub no_last : {X : Type 0} (xs : List X) → xs ≡ [] → IsNone (last_or None xs)
no_last [] e = refl
no_last (x ∷ xs) e = cc
