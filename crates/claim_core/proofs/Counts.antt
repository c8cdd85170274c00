-- How often claims have a unit held and done.
use Rattle.std.specs.Prelude.{count_by, nat_lt, slice_get, slice_set}
use Rattle.std.specs.List.{list_any, range_with_len}
use Rattle.std.proofs.Common.{◌≡◌, ℕ, zero, suc, ◌+◌, ◌-◌, ◌≤◌, min, Bool, true, false, ◌&&◌, ◌||◌, not, cond, List, [], ◌∷◌, refl, ap, sym, ◌∙◌, subst, arith, Some, ◌⊎◌, inl, inr}
use Rattle.std.proofs.lemmas.Bool.Decides.{nat_tests}
use Rattle.std.proofs.lemmas.List.Sums.{sum_by-append, sum_by-cons}
use Rattle.net_core.proofs.Numbers.{numbers_grow}
use Rattle.net_core.specs.Network.{numbers_below}
use Rattle.dta_model.specs.Machine.{Claims, finished, holds_unit, is_finished}
use Rattle.dta_model.specs.Units.{unit_count}
use Rattle.dta_model.specs.declared.plan.Plan.{Plan}
use Rattle.claim_core.specs.Parts.{done_in}
use Rattle.claim_core.specs.Sums.{below, once_below, one_if, total}
use Rattle.claim_core.proofs.Cuts.{below_cut}

-- how many units are drawn, and how often one is held
abbrev pub drawn_in : Plan → Claims → ℕ
drawn_in p s = min s.drawn (unit_count p)

abbrev pub held_in : Claims → ℕ → ℕ
held_in s x = count_by (holds_unit x) s.stages

pub min_low : (a b : ℕ) → a ≤ b → min a b ≡ a
min_low a b h = omega arith

pub min_high : (a b : ℕ) → b ≤ a → min a b ≡ b
min_high a b h = omega arith

module _ {A : Type 0} (f : A → Bool) where
  pub count_is : (xs : List A) → count_by f xs ≡ total (λ x. one_if (f x)) xs
  count_is [] = refl
  count_is (x ∷ xs) = sum_by-cons (λ y. cond (f y) 1 0) x xs ∙ ap (λ k. one_if (f x) + k) (count_is xs)

  any_yes : (xs : List A) → list_any f xs ≡ true → 1 ≤ total (λ x. one_if (f x)) xs
  any_yes [] e = cc
  any_yes (x ∷ xs) e = step (f x) e (any_yes xs)
    where
      step : (b : Bool) → (b || list_any f xs) ≡ true → (list_any f xs ≡ true → 1 ≤ total (λ y. one_if (f y)) xs) → 1 ≤ one_if b + total (λ y. one_if (f y)) xs
      step true e h = omega arith
      step false e h = omega (arith, h e)

  any_not : (xs : List A) → list_any f xs ≡ false → total (λ x. one_if (f x)) xs ≡ 0
  any_not [] e = refl
  any_not (x ∷ xs) e = step (f x) e (any_not xs)
    where
      step : (b : Bool) → (b || list_any f xs) ≡ false → (list_any f xs ≡ false → total (λ y. one_if (f y)) xs ≡ 0) → one_if b + total (λ y. one_if (f y)) xs ≡ 0
      step true e h = cc
      step false e h = omega (arith, h e)

pub done_is : (p : Plan) (s : Claims) (x : ℕ) → done_in p s x ≡ once_below x (drawn_in p s) - held_in s x
unfolding is_finished
done_is p s x = by (nat_lt x (drawn_in p s)) (list_any (holds_unit x) s.stages) (held_in s x)
    (λ e. subst (λ (k : ℕ). 1 ≤ k) (sym (count_is (holds_unit x) s.stages)) (any_yes (holds_unit x) s.stages e))
    (λ e. count_is (holds_unit x) s.stages ∙ any_not (holds_unit x) s.stages e)
  where
    by : (b a : Bool) (n : ℕ) → (a ≡ true → 1 ≤ n) → (a ≡ false → n ≡ 0) → one_if (b && not a) ≡ one_if b - n
    by true true n h k = omega (arith, h refl)
    by true false n h k = omega (arith, k refl)
    by false true n h k = omega arith
    by false false n h k = omega arith

-- counted among the numbers below a bound
pub count_below : (f : ℕ → Bool) (m : ℕ) → count_by f (numbers_below m) ≡ below m (λ x. one_if (f x))
count_below f zero = refl
count_below f (suc m) =
    let a = ap (λ xs. count_by f xs) (numbers_grow 0 m (0 + m) refl) in
    let b = sum_by-append (λ y. cond (f y) 1 0) (range_with_len 0 m) ((0 + m) ∷ []) in
    let z : 0 + m ≡ m = omega arith in
    let c : count_by f ((0 + m) ∷ []) ≡ one_if (f m) = ap (λ y. count_by f (y ∷ [])) z ∙ one (f m) in
    omega (arith, a, b, c, count_below f m)
  where
    one : (b : Bool) → 0 + cond b 1 0 ≡ one_if b
    one true = refl
    one false = refl

pub none_past : (p : Plan) (s : Claims) (x : ℕ) → drawn_in p s ≤ x → done_in p s x ≡ 0
none_past p s x le = let z : once_below x (drawn_in p s) ≡ 0 = past x (drawn_in p s) le in omega (arith, done_is p s x, z)
  where
    past : (x g : ℕ) → g ≤ x → once_below x g ≡ 0
    past x g h = grind (arith, nat_tests)

-- the finished units are counted among the drawn ones
pub sum_of : (p : Plan) (s : Claims) → finished p s ≡ below (drawn_in p s) (done_in p s)
unfolding finished
sum_of p s = count_below (is_finished p s) (unit_count p)
    ∙ below_cut (done_in p s) (done_in p s) (drawn_in p s) (unit_count p) (omega arith) (λ x l. refl) (none_past p s)

module _ {A : Type 0} where
  pub some_is : (a b : A) → Some a ≡ Some b → a ≡ b
  some_is a b e = cc

  pub total_slice : (f : A → ℕ) (vs : List A) (i : ℕ) (v w : A) → slice_get vs i ≡ Some v → total f (slice_set vs i w) + f v ≡ total f vs + f w
  total_slice f [] i v w e = cc
  total_slice f (x ∷ xs) zero v w e = omega (arith, ap f (some_is x v e))
  total_slice f (x ∷ xs) (suc i) v w e = omega (arith, total_slice f xs i v w e)

  -- what stands somewhere after a write is what was written, or stood there
  pub get_set : (vs : List A) (w i : ℕ) (x y : A) → slice_get (slice_set vs w x) i ≡ Some y → (x ≡ y) ⊎ (slice_get vs i ≡ Some y)
  get_set [] w i x y e = inr e
  get_set (v ∷ vs) zero zero x y e = inl (some_is x y e)
  get_set (v ∷ vs) zero (suc i) x y e = inr e
  get_set (v ∷ vs) (suc w) zero x y e = inr e
  get_set (v ∷ vs) (suc w) (suc i) x y e = get_set vs w i x y e
