-- Sums over lists, and over the numbers below a bound.
use Rattle.std.proofs.Common.{◌≡◌, ℕ, Bool, zero, suc, true, false, ◌+◌, ◌<◌, ◌≤◌, ◌≢◌, List, [], ◌∷◌, ◌++◌, set, refl, sym, ap, subst, lt_of_not-le, arith}
use Rattle.std.proofs.lemmas.Bool.Decides.{nat_tests}
use mathlib.Core.Option.{some, some-injective, some-ne-none}
use lib.ListN.{get_elem?}
use native.Mathlib.Decide.{dec_le}
use mathlib.Core.Logic.{dite}
use Rattle.claim_core.specs.Sums.{below, is_at, once_below, one_if, total}

module _ {A : Type 0} where
  pub total_set : (f : A → ℕ) (vs : List A) (i : ℕ) (v w : A) → get_elem? vs i ≡ some v → total f (set vs i w) + f v ≡ total f vs + f w
  total_set f [] i v w e = absurd (some-ne-none v (sym e))
  total_set f (x ∷ xs) zero v w e = omega (arith, ap f (some-injective x v e))
  total_set f (x ∷ xs) (suc i) v w e = omega (arith, total_set f xs i v w e)

  pub total_snoc : (f : A → ℕ) (vs : List A) (w : A) → total f (vs ++ w ∷ []) ≡ total f vs + f w
  total_snoc f [] w = omega arith
  total_snoc f (x ∷ xs) w = omega (arith, total_snoc f xs w)

  pub total_at : (f : A → ℕ) (vs : List A) (i : ℕ) (v : A) → get_elem? vs i ≡ some v → f v ≤ total f vs
  total_at f [] i v e = absurd (some-ne-none v (sym e))
  total_at f (x ∷ xs) zero v e = omega (arith, ap f (some-injective x v e))
  total_at f (x ∷ xs) (suc i) v e = omega (arith, total_at f xs i v e)

  pub total_zero : (vs : List A) → total (λ v. 0) vs ≡ 0
  total_zero [] = refl
  total_zero (x ∷ xs) = omega (arith, total_zero xs)

module _ {A : Type 0} where
  pub total_le : (f g : A → ℕ) (vs : List A) → ((i : ℕ) (v : A) → get_elem? vs i ≡ some v → f v ≤ g v) → total f vs ≤ total g vs
  total_le f g [] h = omega arith
  total_le f g (x ∷ xs) h = omega (arith, h zero x refl, total_le f g xs (λ i v e. h (suc i) v e))

pub below_plus : (f g : ℕ → ℕ) (m : ℕ) → below m (λ x. f x + g x) ≡ below m f + below m g
below_plus f g zero = refl
below_plus f g (suc m) = omega (arith, below_plus f g m)

pub at_self : (y : ℕ) → is_at y y ≡ 1
at_self y = grind (arith, nat_tests)

pub at_other : (x y : ℕ) → x ≢ y → is_at x y ≡ 0
at_other x y h = grind (arith, nat_tests)

pub at_same : (x y : ℕ) → is_at x y ≡ is_at y x
at_same x y = grind (arith, nat_tests)

-- a number among those below a bound
pub once_le : (x g : ℕ) → once_below x g ≤ 1
once_le x g = grind (arith, nat_tests)

pub once_in : (x g : ℕ) → 1 ≤ once_below x g → x < g
once_in x g h = grind (arith, nat_tests)

pub once_here : (x g : ℕ) → x < g → once_below x g ≡ 1
once_here x g h = grind (arith, nat_tests)

pub once_out : (x g : ℕ) → g ≤ x → once_below x g ≡ 0
once_out x g h = grind (arith, nat_tests)

pub once_more : (x g : ℕ) → once_below x (suc g) ≡ once_below x g + is_at x g
once_more x g = grind (arith, nat_tests)

pub is_one : (b : Bool) → 1 ≤ one_if b → b ≡ true
is_one true h = refl
is_one false h = absurd (omega arith)

pub is_zero : (b : Bool) → one_if b ≡ 0 → b ≡ false
is_zero true h = absurd (omega (arith, h))
is_zero false h = refl

pub below_at : (y m : ℕ) → y < m → 1 ≤ below m (λ x. is_at x y)
below_at y zero h = absurd (omega arith)
below_at y (suc m) h = dite (dec_le m y)
    (λ le. let same : y ≡ m = omega arith in let here : is_at m y ≡ 1 = subst (λ (z : ℕ). is_at z y ≡ 1) same (at_self y) in omega (arith, here))
    (λ ne. omega (arith, below_at y m (lt_of_not-le ne)))

pub bounded : (f : ℕ → ℕ) (m : ℕ) → ((x : ℕ) → x < m → f x ≤ 1) → below m f ≤ m
bounded f zero h = omega arith
bounded f (suc m) h = omega (arith, h m (omega arith), bounded f m (λ x lt. h x (omega arith)))

-- m different numbers below m are all of them
pub all_there : (f : ℕ → ℕ) (m : ℕ) → ((x : ℕ) → x < m → f x ≤ 1) → m ≤ below m f → (x : ℕ) → x < m → 1 ≤ f x
all_there f zero h full x lt = absurd (omega arith)
all_there f (suc m) h full x lt =
    let rest : below m f ≤ m = bounded f m (λ y l. h y (omega arith)) in
    let top : f m ≤ 1 = h m (omega arith) in
    let whole : suc m ≤ f m + below m f = full in
    dite (dec_le m x)
    (λ le. let same : x ≡ m = omega arith in subst (λ (y : ℕ). 1 ≤ f y) (sym same) (omega arith))
    (λ n. all_there f m (λ y l. h y (omega arith)) (omega arith) x (lt_of_not-le n))

module _ {A : Type 0} where
  -- where the others have none
  pub total_only : (f : A → ℕ) (vs : List A) (i : ℕ) (v : A) → get_elem? vs i ≡ some v → ((j : ℕ) (u : A) → j ≢ i → get_elem? vs j ≡ some u → f u ≡ 0) → total f vs ≡ f v
  total_only f [] i v e h = absurd (some-ne-none v (sym e))
  total_only f (x ∷ xs) zero v e h =
      let n : total f xs ≤ total (λ (u : A). 0) xs = total_le f (λ u. 0) xs (λ j u a. (let z : f u ≡ 0 = h (suc j) u (λ q. omega arith) a in omega arith)) in
      omega (arith, n, total_zero xs, ap f (some-injective x v e))
  total_only f (x ∷ xs) (suc i) v e h =
      omega (arith, h zero x (λ q. omega arith) refl, total_only f xs i v e (λ j u n a. h (suc j) u (λ q. n (omega arith)) a))

pub below_at_le : (y m : ℕ) → below m (λ x. is_at x y) ≤ 1
below_at_le y m = below_once y m (dec_le m y)
  where
    none : (y m : ℕ) → m ≤ y → below m (λ x. is_at x y) ≡ 0
    none y zero h = refl
    none y (suc m) h = let z : is_at m y ≡ 0 = grind (arith, nat_tests) in omega (arith, none y m (omega arith), z)

    below_once : (y m : ℕ) → Dec (m ≤ y) → below m (λ x. is_at x y) ≤ 1
    below_once y m (yes h) = omega (arith, none y m h)
    below_once y zero (no h) = omega arith
    below_once y (suc m) (no h) = dite (dec_le m y)
        (λ le. let t : is_at m y ≤ 1 = grind (arith, nat_tests) in omega (arith, none y m le, t))
        (λ n. let z : is_at m y ≡ 0 = (let l : suc y ≤ m = lt_of_not-le n in grind (arith, nat_tests)) in omega (arith, below_once y m (no n), z))

-- at least one of each
pub full : (f : ℕ → ℕ) (m : ℕ) → ((x : ℕ) → x < m → 1 ≤ f x) → m ≤ below m f
full f zero h = omega arith
full f (suc m) h = omega (arith, h m (omega arith), full f m (λ x l. h x (omega arith)))

pub total-append : {A : Type 0} (f : A → ℕ) (xs ys : List A) → total f (xs ++ ys) ≡ total f xs + total f ys
total-append f [] ys = omega arith
total-append f (x ∷ xs) ys = omega (arith, total-append f xs ys)
