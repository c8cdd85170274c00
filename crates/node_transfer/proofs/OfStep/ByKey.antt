-- Look-ups and changes in a list that is made of numbers.
use Rattle.std.proofs.Common.{◌≡◌, ℕ, zero, suc, ◌+◌, ◌<◌, Bool, true, false, cond, ◌||◌, not, List, [], ◌∷◌, length, map, refl, ap, sym, subst, arith, get_or, Option, Some, None, add-one, ◌⊎◌, inl, inr}
use Rattle.std.specs.Prelude.{slice_get, find, filter, nat_eq, option_map, ◌≢◌}
use Rattle.std.specs.List.{list_any}
use Rattle.std.specs.List.Sorted.{IsNonDecreasing, IsNonDecreasingBy, IsPartitionPoint}
use Rattle.std.proofs.lemmas.Bool.{eqb-true, eqb-false, eq-eqb, ne_eqb, ltb-true, ltb-false}
use Rattle.std.proofs.lemmas.List.{get_or-map, length-map}
use Rattle.std.proofs.lemmas.Bool.Decides.{eqb_tells}
use Rattle.std.proofs.Math.Dec.{eqb, ltb}
pub use Rattle.std.proofs.lemmas.Bool.{and_parts as both_true}
use Rattle.dta_model.proofs.Queues.{absent, distinct}
use Rattle.node_transfer.specs.Inside.Pass.{place_of}
use Rattle.node_transfer.specs.Places.{set_some, changed_at}

pub bool_cases : (b : Bool) → (b ≡ true) ⊎ (b ≡ false)
bool_cases true = inl refl
bool_cases false = inr refl

-- what is absent is not the first
pub head_parts : (b c : Bool) → not (b || c) ≡ true → (b ≡ false) × (not c ≡ true)
head_parts true c h = cc
head_parts false c h = (refl, h)

-- what stands at the place of a number is made of that number
pub get-at : {Y : Type 0} (f : ℕ → Y) (b : ℕ) (xs : List ℕ) → slice_get (map f xs) (place_of b xs) ≡ option_map f (find (λ x. nat_eq x b) xs)
unfolding place_of
get-at f b [] = refl
get-at f b (x ∷ xs) = place_case (eqb x b) (get-at f b xs)
  where
    place_case : (c : Bool) → slice_get (map f xs) (place_of b xs) ≡ option_map f (find (λ x. nat_eq x b) xs)
        → slice_get (f x ∷ map f xs) (cond c 0 (place_of b xs + 1)) ≡ option_map f (cond c (Some x) (find (λ x. nat_eq x b) xs))
    place_case true h = refl
    place_case false h = rw add-one h

-- a change behind a first element
pub behind_by : {Y : Type 0} (h : Y → Y) (y y' : Y) (xs zs : List Y) (p : ℕ) (o : Option Y) → set_some h o p xs ≡ zs → y' ≡ y → set_some h o (suc p) (y ∷ xs) ≡ y' ∷ zs
behind_by h y y' xs zs p None e s = rw (e, s) refl
behind_by h y y' xs zs p (Some z) e s = rw s (ap (λ us. y ∷ us) e)

-- a change of what is made of one number
pub set-at : {Y : Type 0} (f f' : ℕ → Y) (h : Y → Y) (b : ℕ) (xs : List ℕ) → distinct xs ≡ true
    → ((x : ℕ) → x ≢ b → f' x ≡ f x) → f' b ≡ h (f b)
    → changed_at h (place_of b xs) (map f xs) ≡ map f' xs
unfolding place_of
set-at f f' h b [] d other here = refl
set-at f f' h b (x ∷ xs) d other here = set_case (set-at f f' h b xs ((both_true (absent x xs) (distinct xs) d).1) other here) (eqb_tells x b)
  where
    rest_same : (ys : List ℕ) → absent b ys ≡ true → map f ys ≡ map f' ys
    rest_same [] a = refl
    rest_same (y ∷ ys) a =
        let p = head_parts (eqb y b) (list_any (λ z. eqb z b) ys) a in
        let e : f y ≡ f' y = sym (other y (eqb-false y b p.0)) in
        let r : map f ys ≡ map f' ys = rest_same ys p.1 in cc

    set_case : changed_at h (place_of b xs) (map f xs) ≡ map f' xs → ((eqb x b ≡ true) × (x ≡ b)) ⊎ ((eqb x b ≡ false) × (x ≢ b))
        → changed_at h (cond (eqb x b) 0 (place_of b xs + 1)) (f x ∷ map f xs) ≡ f' x ∷ map f' xs
    set_case ih (inl (test, same)) =
        rw test
        (let a : absent b xs ≡ true = subst (λ z. absent z xs ≡ true) same ((both_true (absent x xs) (distinct xs) d).0) in
        let e : f' x ≡ h (f x) = subst (λ z. f' z ≡ h (f z)) (sym same) here in
        let r : map f xs ≡ map f' xs = rest_same xs a in cc)
    set_case ih (inr (test, ne)) = rw test (rw add-one (behind_by h (f x) (f' x) (map f xs) (map f' xs) (place_of b xs) (slice_get (map f xs) (place_of b xs)) ih (other x ne)))

-- the first of a filtered list that is b
pub find_kept : (q : ℕ → Bool) (b : ℕ) (xs : List ℕ) → find (λ x. nat_eq x b) (filter q xs) ≡ cond (q b) (find (λ x. nat_eq x b) xs) None
find_kept q b [] = none_kept (q b)
  where
    none_kept : (c : Bool) → find (λ x. nat_eq x b) [] ≡ cond c (find (λ x. nat_eq x b) []) None
    none_kept true = refl
    none_kept false = refl
find_kept q b (x ∷ xs) = kept_step (eqb x b) (q x) (q b) refl (λ e. ap q (eqb-true x b e)) (find_kept q b xs)
  where
    kept_step : (e c d : Bool) → e ≡ eqb x b → (e ≡ true → c ≡ d)
        → find (λ y. nat_eq y b) (filter q xs) ≡ cond d (find (λ y. nat_eq y b) xs) None
        → find (λ y. nat_eq y b) (cond c (x ∷ filter q xs) (filter q xs)) ≡ cond d (cond e (Some x) (find (λ y. nat_eq y b) xs)) None
    kept_step true true true r h ih = rw (← r) refl
    kept_step true true false r h ih = let n : true ≡ false = h refl in cc n
    kept_step true false true r h ih = let n : false ≡ true = h refl in cc n
    kept_step true false false r h ih = ih
    kept_step false true d r h ih = rw (← r) ih
    kept_step false false d r h ih = ih

-- elements stand in order where their numbers do
pub order-by : {X : Type 0} (key : X → ℕ) (xs : List X) → IsNonDecreasing (map key xs) → IsNonDecreasingBy key xs
order-by key xs order i j d l h =
    let r = order i j 0 l (omega (arith, h, length-map xs key)) in
    let a = get_or-map key xs i d 0 (omega (arith, l, h)) in
    let b = get_or-map key xs j d 0 h in
    omega (arith, r, a, b)

-- the number stands at its place
found_at : {X : Type 0} (key : X → ℕ) (b : ℕ) (xs : List X) (d : X) → place_of b (map key xs) < length xs → key (get_or xs (place_of b (map key xs)) d) ≡ b
unfolding place_of
found_at key b [] d h = absurd (omega (arith, h))
found_at key b (x ∷ xs) d h = by (eqb_tells (key x) b) h (found_at key b xs d)
  where
    by : ((eqb (key x) b ≡ true) × (key x ≡ b)) ⊎ ((eqb (key x) b ≡ false) × (key x ≢ b)) → cond (eqb (key x) b) 0 (place_of b (map key xs) + 1) < suc (length xs)
        → (place_of b (map key xs) < length xs → key (get_or xs (place_of b (map key xs)) d) ≡ b)
        → key (get_or (x ∷ xs) (cond (eqb (key x) b) 0 (place_of b (map key xs) + 1)) d) ≡ b
    by (inl (test, same)) k ih = rw test same
    by (inr (test, ne)) k ih = let m = rw test at k in rw (test, add-one) (ih (omega (arith, m)))

-- where they stand in order, it is the first place that isn't below the number
pub point-place : {X : Type 0} (key : X → ℕ) (b : ℕ) (xs : List X) (r : ℕ) → IsNonDecreasingBy key xs → place_of b (map key xs) < length xs
    → IsPartitionPoint (λ x. ltb (key x) b ≡ true) (λ x. ltb (key x) b ≡ false) xs r → r ≡ place_of b (map key xs)
unfolding place_of
point-place key b [] r order there point = absurd (omega (arith, there))
point-place key b (x ∷ xs) zero order there point =
    let first = ltb-false (key x) b (point.1 0 x (omega arith) (omega arith)) in
    let last = order 0 (place_of b (map key (x ∷ xs))) x (omega arith) there in
    let is = found_at key b (x ∷ xs) x there in
    rw (eq-eqb (key x) b (omega (arith, first, last, is))) refl
point-place key b (x ∷ xs) (suc r) order there point =
    let less = ltb-true (key x) b (point.0 0 x (omega arith) (omega arith)) in
    let other = ne_eqb (key x) b (λ same. omega (arith, less, same)) in
    let rest = rw other at there in
    let ih = point-place key b xs r (λ i j d l h. order (suc i) (suc j) d (omega (arith, l)) (omega (arith, h))) (omega (arith, rest))
    ((λ k d l h. point.0 (suc k) d (omega arith) (omega (arith, h))), (λ k d l h. point.1 (suc k) d (omega (arith, l)) (omega (arith, h)))) in
    rw (other, add-one) (ap suc ih)

-- the number stands at a place, and a lower one before it
pub place-at : {X : Type 0} (key : X → ℕ) (b : ℕ) (xs : List X) (k : ℕ) (d e : X) → IsNonDecreasingBy key xs → k < length xs → key (get_or xs k d) ≡ b
    → ((i : ℕ) → i + 1 ≡ k → key (get_or xs i e) < b) → k ≡ place_of b (map key xs)
unfolding place_of
place-at key b [] k d e order h is before = absurd (omega (arith, h))
place-at key b (x ∷ xs) zero d e order h is before = rw (eq-eqb (key x) b is) refl
place-at key b (x ∷ xs) (suc k) d e order h is before =
    let low = order 0 k e (omega arith) (omega (arith, h)) in
    let less = before k (omega arith) in
    rw (ne_eqb (key x) b (λ same. omega (arith, low, less, same)), add-one)
    (ap suc (place-at key b xs k d e (λ i j a l g. order (suc i) (suc j) a (omega (arith, l)) (omega (arith, g))) (omega (arith, h)) is (λ i q. before (suc i) (omega (arith, q)))))
