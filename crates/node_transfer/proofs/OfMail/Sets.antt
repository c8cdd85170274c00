-- What stands in a list after one element was set.
use Rattle.std.specs.Prelude.{slice_get, slice_set, ◌≢◌}
use Rattle.std.proofs.Common.{◌≡◌, ℕ, zero, suc, ◌<◌, List, [], ◌∷◌, length, refl, ap, ◌∙◌, arith, Some}

pub set-other : {X : Type 0} (xs : List X) (i k : ℕ) (y : X) → k ≢ i → slice_get (slice_set xs i y) k ≡ slice_get xs k
set-other [] i k y ne = refl
set-other (x ∷ xs) zero zero y ne = absurd (ne refl)
set-other (x ∷ xs) zero (suc k) y ne = refl
set-other (x ∷ xs) (suc i) zero y ne = refl
set-other (x ∷ xs) (suc i) (suc k) y ne = set-other xs i k y (λ e. ne (ap suc e))

pub set-here : {X : Type 0} (xs : List X) (i : ℕ) (y : X) → i < length xs → slice_get (slice_set xs i y) i ≡ Some y
set-here [] i y h = absurd (omega (arith, h))
set-here (x ∷ xs) zero y h = refl
set-here (x ∷ xs) (suc i) y h = set-here xs i y (omega (arith, h))

pub set-got : {X : Type 0} (xs : List X) (i : ℕ) (x y : X) → slice_get (slice_set xs i y) i ≡ Some x → x ≡ y
set-got [] i x y h = cc
set-got (z ∷ xs) zero x y h = cc
set-got (z ∷ xs) (suc i) x y h = set-got xs i x y h

pub count-set : {X : Type 0} (xs : List X) (i : ℕ) (y : X) → length (slice_set xs i y) ≡ length xs
count-set [] i y = refl
count-set (x ∷ xs) zero y = refl
count-set (x ∷ xs) (suc i) y = ap suc (count-set xs i y)

-- two lists of one length with the same elements
pub same-elements : {X : Type 0} (xs ys : List X) → length xs ≡ length ys → ((i : ℕ) (x y : X) → slice_get xs i ≡ Some x → slice_get ys i ≡ Some y → x ≡ y) → xs ≡ ys
same-elements [] [] e h = refl
same-elements [] (y ∷ ys) e h = absurd (omega (arith, e))
same-elements (x ∷ xs) [] e h = absurd (omega (arith, e))
same-elements (x ∷ xs) (y ∷ ys) e h = ap (λ z. z ∷ xs) (h 0 x y refl refl) ∙ ap (λ zs. y ∷ zs) (same-elements xs ys (omega (arith, e)) (λ i a b p q. h (suc i) a b p q))
