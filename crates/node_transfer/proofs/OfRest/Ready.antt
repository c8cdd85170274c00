-- Heads and waiting lines before the first step in which one of them is ready.
use Rattle.std.specs.Prelude.{All, slice_index_or}
use Rattle.std.proofs.Common.{◌≡◌, ℕ, zero, suc, ◌+◌, ◌<◌, ◌≤◌, true, false, List, [], ◌∷◌, ◌⊎◌, inl, inr, length, min}
use Rattle.std.proofs.Common.{arith, subst, sym, take, add-one}
use Rattle.std.proofs.Math.Dec.{eqb}
use Rattle.std.proofs.lemmas.Bool.Decides.{eqb_tells}
use Rattle.std.proofs.lemmas.List.{take_all}
use Rattle.std.proofs.lemmas.List.Elements.{All-cons, All-head, All-nil, All-tail}

all_take_suc : {X : Type 0} (P : X → Type 0) (xs : List X) (i : ℕ) (d : X) → i < length xs → All P (take i xs) → P (slice_index_or xs i d)
    → All P (take (suc i) xs)
all_take_suc P [] i d h a p = absurd (omega arith)
all_take_suc P (x ∷ xs) zero d h a p = All-cons P x [] p (All-nil P)
all_take_suc P (x ∷ xs) (suc i) d h a p =
    All-cons P x (take (suc i) xs) (All-head P x (take i xs) a) (all_take_suc P xs i d (omega arith) (All-tail P x (take i xs) a) p)

-- what holds of the first elements and of the next one
pub all_take : {X : Type 0} (P : X → Type 0) (xs : List X) (i : ℕ) (d : X) → i < length xs → All P (take i xs) → P (slice_index_or xs i d)
    → All P (take (i + 1) xs)
all_take P xs i d h a p = rw add-one (all_take_suc P xs i d h a p)

take_before_suc : {X : Type 0} (P : X → Type 0) (xs : List X) (i : ℕ) → All P (take (suc i) xs) → All P (take i xs)
take_before_suc P [] zero a = a
take_before_suc P [] (suc i) a = a
take_before_suc P (x ∷ xs) zero a = All-nil P
take_before_suc P (x ∷ xs) (suc i) a =
    All-cons P x (take i xs) (All-head P x (take (suc i) xs) a) (take_before_suc P xs i (All-tail P x (take (suc i) xs) a))

-- what holds of one more holds of the first elements, and of the next one
pub take_before : {X : Type 0} (P : X → Type 0) (xs : List X) (i : ℕ) → All P (take (i + 1) xs) → All P (take i xs)
take_before P xs i a = take_before_suc P xs i (subst (λ k. All P (take k xs)) (add-one i) a)

take_next_suc : {X : Type 0} (P : X → Type 0) (xs : List X) (i : ℕ) (d : X) → i < length xs → All P (take (suc i) xs)
    → P (slice_index_or xs i d)
take_next_suc P [] i d h a = absurd (omega arith)
take_next_suc P (x ∷ xs) zero d h a = All-head P x [] a
take_next_suc P (x ∷ xs) (suc i) d h a = take_next_suc P xs i d (omega arith) (All-tail P x (take (suc i) xs) a)

pub take_next : {X : Type 0} (P : X → Type 0) (xs : List X) (i : ℕ) (d : X) → i < length xs → All P (take (i + 1) xs)
    → P (slice_index_or xs i d)
take_next P xs i d h a = take_next_suc P xs i d h (subst (λ k. All P (take k xs)) (add-one i) a)

pub all_taken : {X : Type 0} (P : X → Type 0) (xs : List X) (i : ℕ) → length xs ≤ i → All P (take i xs) → All P xs
all_taken P xs i h a = subst (λ ys. All P ys) (take_all i xs h) a

-- the least of the first steps and of the next one isn't later than it has to be
pub least_next : {X : Type 0} (P : ℕ → X → Type 0) (xs : List X) (i : ℕ) (x : X) (first here next bound : ℕ) → i < length xs
    → x ≡ slice_index_or xs i x → next ≡ min first here
    → (first < bound → All (P first) (take i xs) → ⊥) → (here < bound → P here x → ⊥)
    → next < bound → All (P next) (take (i + 1) xs) → ⊥
least_next P xs i x first here next bound within is least old new h a = by_two (eqb_tells first next)
  where
    by_two : ((eqb first next ≡ true) × (first ≡ next)) ⊎ ((eqb first next ≡ false) × ((first ≡ next) → ⊥)) → ⊥
    by_two (inl (s, same)) = old (omega (arith, same, h)) (subst (λ k. All (P k) (take i xs)) (sym same) (take_before (P next) xs i a))
    by_two (inr (s, other)) =
        let e : next ≡ here = omega (arith, least, other) in
        new (omega (arith, e, h)) (subst (λ k. P k x) e (subst (P next) (sym is) (take_next (P next) xs i x within a)))
