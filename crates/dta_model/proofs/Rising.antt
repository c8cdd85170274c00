-- Lists along which a number doesn't fall.
use Rattle.std.specs.List.Sorted.{IsNonDecreasingBy}
use Rattle.std.specs.Prelude.{All}
use Rattle.std.proofs.Common.{◌≡◌, ℕ, zero, suc, ◌≤◌, List, [], ◌∷◌, ◌++◌, arith}
use Rattle.std.proofs.lemmas.List.Elements.{All-append, All-get_or, All-head, All-tail}

pub rising-cons : {X : Type 0} (n : X → ℕ) (x : X) (xs : List X) → All (λ y. n x ≤ n y) xs → IsNonDecreasingBy n xs → IsNonDecreasingBy n (x ∷ xs)
rising-cons n x xs all rising zero zero d l h = omega arith
rising-cons n x xs all rising zero (suc j) d l h = All-get_or (λ y. n x ≤ n y) xs j d (omega (arith, h)) all
rising-cons n x xs all rising (suc i) zero d l h = absurd (omega (arith, l))
rising-cons n x xs all rising (suc i) (suc j) d l h = rising i j d (omega (arith, l)) (omega (arith, h))

pub rising-append : {X : Type 0} (n : X → ℕ) (xs ys : List X) → IsNonDecreasingBy n xs → IsNonDecreasingBy n ys → All (λ x. All (λ y. n x ≤ n y) ys) xs → IsNonDecreasingBy n (xs ++ ys)
rising-append n [] ys a b c = b
rising-append n (x ∷ xs) ys a b c =
    rising-cons n x (xs ++ ys)
    (All-append (λ y. n x ≤ n y) xs ys (λ k d high. a 0 (suc k) d (omega arith) (omega (arith, high))) (All-head (λ z. All (λ y. n z ≤ n y) ys) x xs c))
    (rising-append n xs ys (λ i j d l h. a (suc i) (suc j) d (omega (arith, l)) (omega (arith, h))) b (All-tail (λ z. All (λ y. n z ≤ n y) ys) x xs c))

pub rising-same : {X : Type 0} (n : X → ℕ) (c : ℕ) (xs : List X) → All (λ x. n x ≡ c) xs → IsNonDecreasingBy n xs
rising-same n c xs all i j d l h =
    let a = All-get_or (λ x. n x ≡ c) xs i d (omega (arith, l, h)) all in
    let b = All-get_or (λ x. n x ≡ c) xs j d h all in
    omega (arith, a, b)
