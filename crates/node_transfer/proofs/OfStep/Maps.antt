-- Loops that change each element.
use Rattle.std.proofs.Common.{◌≡◌, ℕ, zero, suc, ◌+◌, ◌<◌, ◌≤◌, List, [], ◌∷◌, ◌++◌, length, map, refl, ap, sym, ◌∙◌, arith, take, drop, add-one}
use Rattle.std.specs.Prelude.{slice_set, slice_index_or, All}
use Rattle.std.proofs.lemmas.List.Elements.{All-tail}
use Rattle.std.proofs.lemmas.Bool.{eq-eqb, ne_eqb}
use Rattle.node_transfer.specs.Inside.Pass.{place_of}

-- the elements before the index are done, the others not
abbrev pub mapped_from : {X : Type 0} → (X → X) → ℕ → List X → List X
mapped_from f i xs = take i xs ++ map f (drop i xs)

map_step_suc : {X : Type 0} (f : X → X) (xs : List X) (i : ℕ) (y d : X) → i < length xs → y ≡ f (slice_index_or xs i d) → mapped_from f (suc i) (slice_set xs i y) ≡ mapped_from f i xs
map_step_suc f [] i y d h e = absurd (omega arith)
map_step_suc f (x ∷ xs) zero y d h e = ap (λ z. z ∷ map f xs) e
map_step_suc f (x ∷ xs) (suc i) y d h e = ap (λ zs. x ∷ zs) (map_step_suc f xs i y d (omega arith) e)

pub map_step : {X : Type 0} (f : X → X) (xs : List X) (i : ℕ) (y d : X) → i < length xs → y ≡ f (slice_index_or xs i d) → mapped_from f (i + 1) (slice_set xs i y) ≡ mapped_from f i xs
map_step f xs i y d h e = rw add-one (map_step_suc f xs i y d h e)

pub map_end : {X : Type 0} (f : X → X) (xs : List X) (i : ℕ) → length xs ≤ i → mapped_from f i xs ≡ xs
map_end f [] zero h = refl
map_end f [] (suc i) h = refl
map_end f (x ∷ xs) zero h = absurd (omega arith)
map_end f (x ∷ xs) (suc i) h = ap (λ zs. x ∷ zs) (map_end f xs i (omega arith))

-- the place by a key is not before an index
place_step_suc : {X : Type 0} (key : X → ℕ) (b : ℕ) (xs : List X) (i : ℕ) (d : X) → i < length xs → (key (slice_index_or xs i d) ≡ b → ⊥) → place_of b (drop i (map key xs)) ≡ place_of b (drop (suc i) (map key xs)) + 1
unfolding place_of
place_step_suc key b [] i d h e = absurd (omega arith)
place_step_suc key b (x ∷ xs) zero d h e = rw (ne_eqb (key x) b e) refl
place_step_suc key b (x ∷ xs) (suc i) d h e = place_step_suc key b xs i d (omega arith) e

pub place_step : {X : Type 0} (key : X → ℕ) (b : ℕ) (xs : List X) (i : ℕ) (d : X) → i < length xs → (key (slice_index_or xs i d) ≡ b → ⊥) → place_of b (drop i (map key xs)) ≡ place_of b (drop (i + 1) (map key xs)) + 1
place_step key b xs i d h e = place_step_suc key b xs i d h e ∙ ap (λ k. place_of b (drop k (map key xs)) + 1) (sym (add-one i))

pub place_here : {X : Type 0} (key : X → ℕ) (b : ℕ) (xs : List X) (i : ℕ) (d : X) → i < length xs → key (slice_index_or xs i d) ≡ b → place_of b (drop i (map key xs)) ≡ 0
unfolding place_of
place_here key b [] i d h e = absurd (omega arith)
place_here key b (x ∷ xs) zero d h e = rw (eq-eqb (key x) b e) refl
place_here key b (x ∷ xs) (suc i) d h e = place_here key b xs i d (omega arith) e

pub place_none : {X : Type 0} (key : X → ℕ) (b : ℕ) (xs : List X) (i : ℕ) → length xs ≤ i → place_of b (drop i (map key xs)) ≡ 0
unfolding place_of
place_none key b [] zero h = refl
place_none key b [] (suc i) h = refl
place_none key b (x ∷ xs) zero h = absurd (omega arith)
place_none key b (x ∷ xs) (suc i) h = place_none key b xs i (omega arith)

all_next_suc : {X : Type 0} (P : X → Type 0) (xs : List X) (i : ℕ) (y : X) → All P (drop i xs) → All P (drop (suc i) (slice_set xs i y))
all_next_suc P [] zero y a = a
all_next_suc P [] (suc i) y a = a
all_next_suc P (x ∷ xs) zero y a = All-tail P x xs a
all_next_suc P (x ∷ xs) (suc i) y a = all_next_suc P xs i y a

-- what holds of each element from an index on holds from the next on, after a write at the index
pub all_next : {X : Type 0} (P : X → Type 0) (xs : List X) (i : ℕ) (y : X) → All P (drop i xs) → All P (drop (i + 1) (slice_set xs i y))
all_next P xs i y a = rw add-one (all_next_suc P xs i y a)
