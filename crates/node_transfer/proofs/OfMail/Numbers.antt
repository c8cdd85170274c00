-- Lists that are made of the numbers of a range.
use Rattle.std.specs.List.{list_any, range_with_len}
use Rattle.std.specs.Prelude.{filter, nat_eq, slice_get, ◌≢◌}
use Rattle.std.proofs.Common.{◌≡◌, ℕ, zero, suc, ◌+◌, ◌<◌, ◌≤◌, Bool, true, false, cond, ◌&&◌, ◌||◌, ◌∷◌, length, map, refl, ap, sym, ◌∙◌, arith, Some, get_or}
use Rattle.std.proofs.lemmas.Bool.{eqb-true, eq-eqb}
use Rattle.std.proofs.lemmas.List.FromFn.{get_or-map-range_with_len, length-map-range_with_len}
use Rattle.std.proofs.lemmas.Map.Views.{any-filter_same}
use Rattle.std.proofs.lemmas.Option.{slice_get-get_or}
use Rattle.std.proofs.Math.Dec.{eqb}
use Rattle.net_core.specs.Network.{numbers_below}
use Rattle.dta_model.specs.Plans.{all_nodes}
use Rattle.dta_model.specs.declared.plan.Plan.{Plan}
use Rattle.cell_stages.specs.CellState.{CellState}

-- what stands at a place
pub get-below : {X : Type 0} (f : ℕ → X) (n j : ℕ) (d : X) → j < n → get_or (map f (numbers_below n)) j d ≡ f j
get-below f n j d h = get_or-map-range_with_len f 0 n j j d h (zero_plus j)
  where
    zero_plus : (j : ℕ) → 0 + j ≡ j
    zero_plus j = omega arith

pub found-below : {X : Type 0} (f : ℕ → X) (n j : ℕ) → j < n → slice_get (map f (numbers_below n)) j ≡ Some (f j)
found-below f n j h =
    let count = length-map-range_with_len f 0 n in
    slice_get-get_or (map f (numbers_below n)) j (f j) (omega (arith, h, count)) ∙ ap (λ y. Some y) (get-below f n j (f j) h)

-- a number of the range is among those that pass a test where it passes
any-range : (l n a : ℕ) → a ≤ l → l < a + n → list_any (λ b. nat_eq b l) (range_with_len a n) ≡ true
any-range l zero a low high = absurd (omega (arith, low, high))
any-range l (suc n) a low high = by_test (eqb a l) refl (λ ne. any-range l n (a + 1) (omega (arith, low, ne)) (omega (arith, high)))
  where
    clash : (c : Bool) → c ≡ true → c ≡ false → ⊥
    clash c t f = let no_way : true ≡ false = sym t ∙ f in cc no_way

    by_test : (c : Bool) → eqb a l ≡ c → (a ≢ l → list_any (λ b. nat_eq b l) (range_with_len (a + 1) n) ≡ true) → (c || list_any (λ b. nat_eq b l) (range_with_len (a + 1) n)) ≡ true
    by_test true e rest = refl
    by_test false e rest = rest (λ q. clash (eqb a l) (eq-eqb a l q) e)

pub any-below : (q : ℕ → Bool) (l n : ℕ) → l < n → list_any (λ b. nat_eq b l) (filter q (numbers_below n)) ≡ q l
any-below q l n h =
    any-filter_same (λ b. nat_eq b l) q (q l) (λ k e. ap q (eqb-true k l e)) (numbers_below n)
    ∙ ap (λ c. q l && c) (any-range l n 0 (omega arith) (omega (arith, h)))
    ∙ and_true (q l)
  where
    and_true : (c : Bool) → (c && true) ≡ c
    and_true true = refl
    and_true false = refl

-- two rules that agree on the numbers that pass a test
same-kept-range : {X : Type 0} (f g : ℕ → X) (q : ℕ → Bool) (n a : ℕ) → ((i : ℕ) → a ≤ i → i < a + n → q i ≡ true → f i ≡ g i)
    → map f (filter q (range_with_len a n)) ≡ map g (filter q (range_with_len a n))
same-kept-range f g q zero a h = refl
same-kept-range f g q (suc n) a h = by_test (q a) refl (same-kept-range f g q n (a + 1) (λ i low high e. h i (omega (arith, low)) (omega (arith, high)) e))
  where
    by_test : (c : Bool) → q a ≡ c → map f (filter q (range_with_len (a + 1) n)) ≡ map g (filter q (range_with_len (a + 1) n))
        → map f (cond c (a ∷ filter q (range_with_len (a + 1) n)) (filter q (range_with_len (a + 1) n))) ≡ map g (cond c (a ∷ filter q (range_with_len (a + 1) n)) (filter q (range_with_len (a + 1) n)))
    by_test true e ih = ap (λ y. y ∷ map f (filter q (range_with_len (a + 1) n))) (h a (omega arith) (omega arith) e) ∙ ap (λ ys. g a ∷ ys) ih
    by_test false e ih = ih

pub same-kept : {X : Type 0} (f g : ℕ → X) (q : ℕ → Bool) (n : ℕ) → ((i : ℕ) → i < n → q i ≡ true → f i ≡ g i) → map f (filter q (numbers_below n)) ≡ map g (filter q (numbers_below n))
same-kept f g q n h = same-kept-range f g q n 0 (λ i low high e. h i (omega (arith, high)) e)

-- those that pass a test are below the bound
kept-range : (q : ℕ → Bool) (n a j b : ℕ) → slice_get (filter q (range_with_len a n)) j ≡ Some b → b < a + n
kept-range q zero a j b e = cc
kept-range q (suc n) a j b e = by_test (q a) j e (λ i f. kept-range q n (a + 1) i b f)
  where
    some_nat : (x y : ℕ) → Some x ≡ Some y → x ≡ y
    some_nat x y h = cc

    by_test : (c : Bool) (j : ℕ) → slice_get (cond c (a ∷ filter q (range_with_len (a + 1) n)) (filter q (range_with_len (a + 1) n))) j ≡ Some b
        → ((i : ℕ) → slice_get (filter q (range_with_len (a + 1) n)) i ≡ Some b → b < a + 1 + n) → b < a + suc n
    by_test true zero e rest = let same = some_nat a b e in omega (arith, same)
    by_test true (suc j) e rest = let high = rest j e in omega (arith, high)
    by_test false j e rest = let high = rest j e in omega (arith, high)

pub kept-below : (q : ℕ → Bool) (n j b : ℕ) → slice_get (filter q (numbers_below n)) j ≡ Some b → b < n
kept-below q n j b e = let high = kept-range q n 0 j b e in omega (arith, high)

-- there is a cell for each node
pub cell-count : (p : Plan) (cell : ℕ → CellState) → length (map cell (all_nodes p)) ≡ length p.net.nodes
cell-count p cell = length-map-range_with_len cell 0 (length p.net.nodes)
