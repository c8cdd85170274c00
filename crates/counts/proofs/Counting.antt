-- The counts of keys that are in order grow at their end.
use Rattle.std.specs.Cmp.{IsTotalOrder}
use Rattle.std.specs.Ordering.{is_lt}
use Rattle.std.specs.Prelude.{nat_lt, filter, count_by, All}
use Rattle.std.specs.declared.cmp.Ordering.{Ordering}
use Rattle.std.proofs.lemmas.Cmp.{tied_itself}
use Rattle.std.proofs.Common.{◌≡◌, ℕ, zero, suc, ◌+◌, ◌-◌, ◌<◌, ◌≤◌, Bool, true, false, cond, List, [], ◌∷◌, ◌++◌, length, get_or, set, map, refl, ap, sym, ◌∙◌, subst, arith, ◌⊎◌, inl, inr}
use Rattle.std.proofs.lemmas.List.{get_or_default}
use Rattle.std.proofs.lemmas.List.Sums.{sum_by-cons, sum_by_push}
use Rattle.std.proofs.lemmas.List.Elements.{All-cons, All-head, All-nil, All-tail}
use Rattle.std.proofs.lemmas.Bool.{lt-ltb, false≢true, true≢false}
use Rattle.counts.specs.Counting.{counts_of}
use Rattle.counts.specs.Inside.Counting.{Among, Below, Each, Rising, with_one}

pub Each-weaker : {K : Type 0} (P Q : K → Type 0) → ((x : K) → P x → Q x) → (xs : List K) → Each P xs → Each Q xs
Each-weaker P Q f [] all = tt
Each-weaker P Q f (x ∷ xs) all = (f x all.0, Each-weaker P Q f xs all.1)

-- what is needed of keys and their counts
pub record IsCounting {K C : Type 0} (order : K → K → Ordering) (is : K → K → Bool) (count : K → ℕ → C) (same : K → C → Bool) (grown : C → C) : Type 0 where
  pub total : IsTotalOrder order
  pub itself : (k : K) → is k k ≡ true
  pub only : (k x : K) → is k x ≡ true → k ≡ x
  pub told : (k x : K) (n : ℕ) → same x (count k n) ≡ is k x
  pub grows : (k : K) (n : ℕ) → grown (count k n) ≡ count k (n + 1)

-- a key's count comes before those of the keys after it
pub counts-cons : {K C : Type 0} (count : K → ℕ → C) (f : K → ℕ) (k : K) (keys : List K) → counts_of count f (k ∷ keys) ≡ cond (nat_lt 0 (f k)) (count k (f k) ∷ counts_of count f keys) (counts_of count f keys)
counts-cons {K} {C} count f k keys = by (nat_lt 0 (f k))
  where
    by : (b : Bool) → map (λ x. count x (f x)) (cond b (k ∷ filter (λ x. nat_lt 0 (f x)) keys) (filter (λ x. nat_lt 0 (f x)) keys)) ≡ cond b (count k (f k) ∷ counts_of count f keys) (counts_of count f keys)
    by true = refl
    by false = refl

pub counts-none : {K C : Type 0} (count : K → ℕ → C) (f : K → ℕ) (keys : List K) → Each (λ k. f k ≡ 0) keys → counts_of count f keys ≡ []
counts-none count f [] all = refl
counts-none count f (k ∷ keys) all = counts-cons count f k keys ∙ rw all.0 (counts-none count f keys all.1)

pub counts-same : {K C : Type 0} (count : K → ℕ → C) (f g : K → ℕ) → ((k : K) → f k ≡ g k) → (keys : List K) → counts_of count f keys ≡ counts_of count g keys
counts-same count f g e [] = refl
counts-same count f g e (k ∷ keys) =
    counts-cons count f k keys
    ∙ ap (λ n. cond (nat_lt 0 n) (count k n ∷ counts_of count f keys) (counts_of count f keys)) (e k)
    ∙ ap (λ L. cond (nat_lt 0 (g k)) (count k (g k) ∷ L) L) (counts-same count f g e keys)
    ∙ sym (counts-cons count g k keys)

-- no count grows by more than one
pub with_one-most : {C : Type 0} (vehicles : C → ℕ) (same : C → Bool) (grown : C → C) (first : C) (most : ℕ) → ((c : C) → vehicles (grown c) ≡ vehicles c + 1) → vehicles first ≤ most + 1 → (counts new : List C) → new ≡ with_one same grown first counts → All (λ c. vehicles c ≤ most) counts → All (λ c. vehicles c ≤ most + 1) new
with_one-most {C} vehicles same grown first most e h counts new is all = subst (All P) (sym is) (by counts all)
  where
    P : C → Type 0
    P c = vehicles c ≤ most + 1

    up : (a b : ℕ) → a ≤ b → a ≤ b + 1
    up a b l = omega (arith, l)

    grows : (c : C) → vehicles c ≤ most → vehicles (grown c) ≤ most + 1
    grows c l = let g = e c in omega (arith, g, l)

    last : (c : C) (b : Bool) → vehicles c ≤ most → All P (cond b (grown c ∷ []) (c ∷ first ∷ []))
    last c true l = All-cons P (grown c) [] (grows c l) (All-nil P)
    last c false l = All-cons P c (first ∷ []) (up (vehicles c) most l) (All-cons P first [] h (All-nil P))

    by : (counts : List C) → All (λ c. vehicles c ≤ most) counts → All P (with_one same grown first counts)
    by [] all = All-cons P first [] h (All-nil P)
    by (c ∷ []) all = last c (same c) (All-head (λ x. vehicles x ≤ most) c [] all)
    by (c ∷ d ∷ counts) all = All-cons P c (with_one same grown first (d ∷ counts)) (up (vehicles c) most (All-head (λ x. vehicles x ≤ most) c (d ∷ counts) all)) (by (d ∷ counts) (All-tail (λ x. vehicles x ≤ most) c (d ∷ counts) all))

-- the last count grows, or a first one follows it
with_one-last : {C : Type 0} (same : C → Bool) (grown : C → C) (first : C) (counts : List C) (i : ℕ) (c : C) (b : Bool) → suc i ≡ length counts → c ≡ get_or counts i c → same c ≡ b → cond b (set counts i (grown c)) (counts ++ first ∷ []) ≡ with_one same grown first counts
with_one-last same grown first [] i c b h is e = absurd (omega (arith, h))
with_one-last same grown first (x ∷ []) zero c b h is e = rw (← is, e) refl
with_one-last same grown first (x ∷ []) (suc i) c b h is e = absurd (omega (arith, h))
with_one-last same grown first (x ∷ y ∷ counts) zero c b h is e = absurd (omega (arith, h))
with_one-last same grown first (x ∷ y ∷ counts) (suc i) c true h is e = ap (λ L. x ∷ L) (with_one-last same grown first (y ∷ counts) i c true (omega (arith, h)) is e)
with_one-last same grown first (x ∷ y ∷ counts) (suc i) c false h is e = ap (λ L. x ∷ L) (with_one-last same grown first (y ∷ counts) i c false (omega (arith, h)) is e)

pub with_one-read : {C : Type 0} (same : C → Bool) (grown : C → C) (first : C) (counts : List C) (many : ℕ) (x y : C) (b : Bool) → 0 < many → many ≡ length counts → x ≡ get_or counts (many - 1) x → y ≡ get_or counts (many - 1) y → b ≡ same x → b ≡ true → set counts (many - 1) (grown y) ≡ with_one same grown first counts
with_one-read same grown first counts many x y b some h is_x is_y e f =
    let alike : x ≡ y = is_x ∙ get_or_default counts (many - 1) x y (omega (arith, h, some)) ∙ sym is_y in
    with_one-last same grown first counts (many - 1) y true (omega (arith, h, some)) is_y (sym (ap same alike) ∙ sym e ∙ f)

pub with_one-first : {C : Type 0} (same : C → Bool) (grown : C → C) (first : C) (counts : List C) (many : ℕ) (x : C) (b : Bool) → 0 < many → many ≡ length counts → x ≡ get_or counts (many - 1) x → b ≡ same x → b ≡ false → counts ++ first ∷ [] ≡ with_one same grown first counts
with_one-first same grown first counts many x b some h is e f = with_one-last same grown first counts (many - 1) x false (omega (arith, h, some)) is (sym e ∙ f)

pub with_one-none : {C : Type 0} (same : C → Bool) (grown : C → C) (first : C) (counts : List C) (many : ℕ) → many ≤ 0 → many ≡ length counts → counts ++ first ∷ [] ≡ with_one same grown first counts
with_one-none same grown first [] many h is = refl
with_one-none same grown first (x ∷ counts) many h is = absurd (omega (arith, h, is))

module _ {K C : Type 0} {order : K → K → Ordering} {is : K → K → Bool} {count : K → ℕ → C} {same : K → C → Bool} {grown : C → C} (laws : IsCounting order is count same grown) where
  never : (k : K) → Below order k k → ⊥
  never k h = false≢true (sym (ap is_lt (tied_itself laws.total k)) ∙ h)

  differs : (k x : K) → (k ≡ x → ⊥) → is k x ≡ false
  differs k x n = by (is k x) refl
    where
      by : (b : Bool) → b ≡ is k x → is k x ≡ false
      by true e = absurd (n (laws.only k x (sym e)))
      by false e = sym e

  number_push : (xs : List K) (x k : K) → count_by (is k) (xs ++ x ∷ []) ≡ count_by (is k) xs + cond (is k x) 1 0
  number_push xs x k = sum_by_push (λ y. cond (is k y) 1 0) xs x

  number_yes : (xs : List K) (x k : K) → is k x ≡ true → count_by (is k) (xs ++ x ∷ []) ≡ count_by (is k) xs + 1
  number_yes xs x k e = number_push xs x k ∙ rw e refl

  number_no : (xs : List K) (x k : K) → is k x ≡ false → count_by (is k) (xs ++ x ∷ []) ≡ count_by (is k) xs
  number_no xs x k e = number_push xs x k ∙ rw e (plain (count_by (is k) xs))
    where
      plain : (n : ℕ) → n + 0 ≡ n
      plain n = omega arith

  -- a key above all that is counted isn't among it
  none_above : (k : K) (xs : List K) → Each (λ y. is k y ≡ false) xs → count_by (is k) xs ≡ 0
  none_above k [] all = refl
  none_above k (y ∷ ys) all = sum_by-cons (λ z. cond (is k z) 1 0) y ys ∙ rw all.0 (none_more (none_above k ys all.1))
    where
      none_more : {n : ℕ} → n ≡ 0 → 0 + n ≡ 0
      none_more {n} e = omega (arith, e)

  module _ (x : K) (xs : List K) (last : Each (λ y. Below order x y → ⊥) xs) where
    above : (k : K) → Below order x k → (count_by (is k) xs ≡ 0) × (count_by (is k) (xs ++ x ∷ []) ≡ 0)
    above k h =
        let other : (y : K) → (Below order x y → ⊥) → is k y ≡ false = λ y n. differs k y (λ e. n (subst (λ z. Below order x z) e h)) in
        let none : count_by (is k) xs ≡ 0 = none_above k xs (Each-weaker (λ y. Below order x y → ⊥) (λ y. is k y ≡ false) other xs last) in
        (none, number_no xs x k (other x (never x)) ∙ none)

    -- the first key is the one
    here : (k : K) (keys : List K) → is k x ≡ true → Each (Below order k) keys → counts_of count (λ z. count_by (is z) (xs ++ x ∷ [])) (k ∷ keys) ≡ with_one (same x) grown (count x 1) (counts_of count (λ z. count_by (is z) xs) (k ∷ keys))
    here k keys e below =
        let k_is : k ≡ x = laws.only k x e in
        let up : Each (λ z. Below order x z) keys = Each-weaker (Below order k) (λ z. Below order x z) (λ z h. subst (λ w. Below order w z) k_is h) keys below in
        let new : counts_of count (λ z. count_by (is z) (xs ++ x ∷ [])) keys ≡ [] = counts-none count (λ z. count_by (is z) (xs ++ x ∷ [])) keys (Each-weaker (λ z. Below order x z) (λ z. count_by (is z) (xs ++ x ∷ []) ≡ 0) (λ z h. (above z h).1) keys up) in
        let old : counts_of count (λ z. count_by (is z) xs) keys ≡ [] = counts-none count (λ z. count_by (is z) xs) keys (Each-weaker (λ z. Below order x z) (λ z. count_by (is z) xs ≡ 0) (λ z h. (above z h).0) keys up) in
        counts-cons count (λ z. count_by (is z) (xs ++ x ∷ [])) k keys
        ∙ ap (λ L. cond (nat_lt 0 (count_by (is k) (xs ++ x ∷ []))) (count k (count_by (is k) (xs ++ x ∷ [])) ∷ L) L) new
        ∙ ap (λ n. cond (nat_lt 0 n) (count k n ∷ []) []) (number_yes xs x k e)
        ∙ by k_is (count_by (is k) xs)
        ∙ sym (ap (with_one (same x) grown (count x 1)) (counts-cons count (λ z. count_by (is z) xs) k keys ∙ ap (λ L. cond (nat_lt 0 (count_by (is k) xs)) (count k (count_by (is k) xs) ∷ L) L) old))
      where
        by : k ≡ x → (n : ℕ) → cond (nat_lt 0 (n + 1)) (count k (n + 1) ∷ []) [] ≡ with_one (same x) grown (count x 1) (cond (nat_lt 0 n) (count k n ∷ []) [])
        by k_is zero = ap (λ z. count z 1 ∷ []) k_is
        by k_is (suc n) = rw (lt-ltb 0 (suc n + 1) (omega arith), lt-ltb 0 (suc n) (omega arith), laws.told k x (suc n), e, laws.grows k (suc n)) refl

    -- the key comes later
    later : (k : K) (keys : List K) → is k x ≡ false → counts_of count (λ z. count_by (is z) (xs ++ x ∷ [])) keys ≡ with_one (same x) grown (count x 1) (counts_of count (λ z. count_by (is z) xs) keys) → counts_of count (λ z. count_by (is z) (xs ++ x ∷ [])) (k ∷ keys) ≡ with_one (same x) grown (count x 1) (counts_of count (λ z. count_by (is z) xs) (k ∷ keys))
    later k keys e rest =
        counts-cons count (λ z. count_by (is z) (xs ++ x ∷ [])) k keys
        ∙ ap (λ n. cond (nat_lt 0 n) (count k n ∷ counts_of count (λ z. count_by (is z) (xs ++ x ∷ [])) keys) (counts_of count (λ z. count_by (is z) (xs ++ x ∷ [])) keys)) (number_no xs x k e)
        ∙ ap (λ L. cond (nat_lt 0 (count_by (is k) xs)) (count k (count_by (is k) xs) ∷ L) L) rest
        ∙ by (nat_lt 0 (count_by (is k) xs)) (counts_of count (λ z. count_by (is z) xs) keys)
        ∙ sym (ap (with_one (same x) grown (count x 1)) (counts-cons count (λ z. count_by (is z) xs) k keys))
      where
        n : ℕ
        n = count_by (is k) xs

        by : (b : Bool) (L : List C) → cond b (count k n ∷ with_one (same x) grown (count x 1) L) (with_one (same x) grown (count x 1) L) ≡ with_one (same x) grown (count x 1) (cond b (count k n ∷ L) L)
        by true [] = rw (laws.told k x n, e) refl
        by true (c ∷ L) = refl
        by false L = refl

    -- one more of a key that none is above
    pub one_more : (keys : List K) → Rising (Below order) keys → Among x keys → counts_of count (λ z. count_by (is z) (xs ++ x ∷ [])) keys ≡ with_one (same x) grown (count x 1) (counts_of count (λ z. count_by (is z) xs) keys)
    one_more [] up there = absurd there
    one_more (k ∷ keys) up there = by (is k x) refl there (one_more keys up.1)
      where
        by : (b : Bool) → b ≡ is k x → (k ≡ x) ⊎ Among x keys → (Among x keys → counts_of count (λ z. count_by (is z) (xs ++ x ∷ [])) keys ≡ with_one (same x) grown (count x 1) (counts_of count (λ z. count_by (is z) xs) keys)) → counts_of count (λ z. count_by (is z) (xs ++ x ∷ [])) (k ∷ keys) ≡ with_one (same x) grown (count x 1) (counts_of count (λ z. count_by (is z) xs) (k ∷ keys))
        by true e t ih = here k keys (sym e) up.0
        by false e (inl k_is) ih = absurd (true≢false (sym (laws.itself k) ∙ ap (is k) k_is ∙ sym e))
        by false e (inr t) ih = later k keys (sym e) (ih t)
