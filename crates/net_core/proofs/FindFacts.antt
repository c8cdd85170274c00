-- The first element that passes a test.
use Rattle.std.proofs.Common.{◌≡◌, ℕ, suc, zero, ◌+◌, ◌<◌, ◌≤◌, List, [], ◌∷◌, length, refl, arith, take, get_or, Bool, true, false}
use Rattle.std.specs.Prelude.{None, Some, find, is_some}
use Rattle.std.specs.List.{list_any}
use Rattle.std.proofs.lemmas.List.{take_more}
use Rattle.std.proofs.lemmas.List.Folds.{find-append}

-- none of the elements before passes, and this one does
pub find-first : {X : Type 0} (p : X → Bool) (xs : List X) (i : ℕ) (d : X) → i < length xs
    → find p (take i xs) ≡ None → p (get_or xs i d) ≡ true → find p xs ≡ Some (get_or xs i d)
find-first p [] i d b n t = absurd (omega arith)
find-first p (x ∷ xs) zero d b n t = rw t refl
find-first p (x ∷ xs) (suc i) d b n t = elim (p x) as (λ v. p x ≡ v
    → find p (x ∷ xs) ≡ Some (get_or xs i d)) [
      | true ↦ λ e. absurd (let m = rw e at n in cc)
      | false ↦ λ e. rw e (find-first p xs i d (omega arith) (rw e at n) t)
    ] refl

-- nor does this one
pub find-passed : {X : Type 0} (p : X → Bool) (xs : List X) (i : ℕ) (d : X) → i < length xs
    → find p (take i xs) ≡ None → p (get_or xs i d) ≡ false → find p (take (i + 1) xs) ≡ None
find-passed p xs i d b n t = rw (take_more xs i d b, find-append p (take i xs) (get_or xs i d ∷ []), n, t) refl

-- none of so many elements passes
pub passed-all : {X : Type 0} (p : X → Bool) (xs : List X) (d : X) (n : ℕ) → n ≤ length xs
    → ((i : ℕ) → i < n → p (get_or xs i d) ≡ false) → find p (take n xs) ≡ None
passed-all p xs d zero b f = refl
passed-all p xs d (suc n) b f =
    let before = passed-all p xs d n (omega arith) (λ i c. f i (omega arith)) in
    let g = find-passed p xs n d (omega arith) before (f n (omega arith)) in
    let e : n + 1 ≡ suc n = omega arith in
    rw e at g

-- whether an element is found
pub is_some-find : {X : Type 0} (p : X → Bool) (xs : List X) → is_some (find p xs) ≡ list_any p xs
is_some-find p [] = refl
is_some-find p (x ∷ xs) = elim (p x) as (λ v. p x ≡ v
    → is_some (find p (x ∷ xs)) ≡ list_any p (x ∷ xs)) [
      | true ↦ λ t. rw t refl
      | false ↦ λ f. rw f (is_some-find p xs)
    ] refl
