-- Steps of a hand-over.
use Rattle.std.proofs.Common.{◌≡◌, ℕ, zero, suc, ◌+◌, ◌<◌, ◌≤◌, List, [], ◌∷◌, ◌++◌, length, refl, ap, ◌∙◌, arith, Some, None, drop, add-one}
use Rattle.std.specs.List.{flat_map}
use Rattle.std.specs.Prelude.{slice_get, slice_set, slice_index_or, All}
use Rattle.std.proofs.lemmas.List.Elements.{All-head, All-tail, All-nil, All-cons}
use Rattle.dta_model.specs.Riders.{RiderState}
use Rattle.dta_model.specs.declared.loaded.Journey.{Journey}
use Rattle.node_transfer.specs.Hand.{journey_by}
use Rattle.node_transfer.specs.Hand.{Within, handed}

pub handed-first : (line : List RiderState) (loaded : List Journey) (r : RiderState) (j : Journey)
    → slice_get line 0 ≡ Some r → j.entries ≡ r.entries → j.arrival ≡ r.arrival
    → handed line loaded ≡ handed (drop 1 line) (slice_set loaded r.number j)
unfolding handed
handed-first [] loaded r j h e a = cc
handed-first (x ∷ line) loaded r j h e a =
    let same : x ≡ r = cc in
    ap (λ y. handed line (slice_set loaded y.number (journey_by y))) same
    ∙ ap (λ y. handed line (slice_set loaded r.number y)) (journey_is r j e a)
  where
    journey_is : (r : RiderState) (j : Journey) → j.entries ≡ r.entries → j.arrival ≡ r.arrival → journey_by r ≡ j
    journey_is r j e a = rw (← e, ← a) refl

pub first_within : (n : ℕ) (line : List RiderState) (r : RiderState) → All (Within n) line → slice_get line 0 ≡ Some r → r.number < n
first_within n [] r a h = cc
first_within n (x ∷ line) r a h = let same : x ≡ r = cc in let p = All-head (Within n) x line a in omega (arith, ap (λ y. y.number) same)

pub rest_within : (n : ℕ) (line : List RiderState) → All (Within n) line → All (Within n) (drop 1 line)
rest_within n [] a = a
rest_within n (x ∷ line) a = All-tail (Within n) x line a

pub none_empty : (line : List RiderState) → slice_get line 0 ≡ None → line ≡ []
none_empty [] h = refl
none_empty (x ∷ line) h = cc

pub ruleset hand_steps = (handed-first, first_within, rest_within, none_empty)

-- the riders of a first list, and then those of a second one
pub handed-append : (xs ys : List RiderState) (loaded : List Journey) → handed (xs ++ ys) loaded ≡ handed ys (handed xs loaded)
unfolding handed
handed-append [] ys loaded = refl
handed-append (r ∷ xs) ys loaded = handed-append xs ys (slice_set loaded r.number (journey_by r))

pub all_split : (P : RiderState → Type 0) (xs ys : List RiderState) → All P (xs ++ ys) → All P xs × All P ys
all_split P [] ys a = (All-nil P, a)
all_split P (x ∷ xs) ys a =
    let rest = all_split P xs ys (All-tail P x (xs ++ ys) a) in
    (All-cons P x xs (All-head P x (xs ++ ys) a) rest.0, rest.1)

flat_suc : {X : Type 0} (f : X → List RiderState) (xs : List X) (i : ℕ) (d y : X) → i < length xs → flat_map f (drop i xs) ≡ f (slice_index_or xs i d) ++ flat_map f (drop (suc i) (slice_set xs i y))
flat_suc f [] i d y h = absurd (omega (arith, h))
flat_suc f (x ∷ xs) zero d y h = refl
flat_suc f (x ∷ xs) (suc i) d y h = flat_suc f xs i d y (omega (arith, h))

-- the riders of the parts from one on
pub flat_next : {X : Type 0} (f : X → List RiderState) (xs : List X) (i : ℕ) (d y : X) → i < length xs → flat_map f (drop i xs) ≡ f (slice_index_or xs i d) ++ flat_map f (drop (i + 1) (slice_set xs i y))
flat_next f xs i d y h = rw add-one (flat_suc f xs i d y h)

pub flat_end : {X : Type 0} (f : X → List RiderState) (xs : List X) (i : ℕ) (loaded : List Journey) → length xs ≤ i → handed (flat_map f (drop i xs)) loaded ≡ loaded
unfolding handed
flat_end f [] zero loaded h = refl
flat_end f [] (suc i) loaded h = refl
flat_end f (x ∷ xs) zero loaded h = absurd (omega (arith, h))
flat_end f (x ∷ xs) (suc i) loaded h = flat_end f xs i loaded (omega (arith, h))
