-- Counts of moves.
use Rattle.std.specs.Prelude.{count_by, filter, All, nat_eq}
use Rattle.std.proofs.Common.{◌≡◌, ℕ, zero, suc, ◌+◌, ◌<◌, ◌≤◌, Bool, true, false, cond, ◌&&◌, List}
use Rattle.std.proofs.Common.{[], ◌∷◌, ◌++◌, refl, ap, ◌∙◌, sym, subst, arith, ◌⊎◌, inl, inr, ◌≢◌}
use Rattle.std.proofs.lemmas.Bool.Decides.{eqb_tells, nat_tests}
use Rattle.std.proofs.lemmas.List.Elements.{All-append, All-head, All-nil, All-tail, All-weaker}
use Rattle.std.proofs.lemmas.List.Sums.{sum_by-append, sum_by-cons}
use Rattle.std.proofs.Math.Dec.{eqb}
use Rattle.dta_model.specs.Trace.{Move}

abbrev pub one_if : Bool → ℕ
one_if b = cond b 1 0

pub count-cons : {X : Type 0} (f : X → Bool) (x : X) (xs : List X)
    → count_by f (x ∷ xs) ≡ one_if (f x) + count_by f xs
count-cons f x xs = sum_by-cons (λ y. cond (f y) 1 0) x xs

pub count-append : {X : Type 0} (f : X → Bool) (xs ys : List X)
    → count_by f (xs ++ ys) ≡ count_by f xs + count_by f ys
count-append f xs ys = sum_by-append (λ y. cond (f y) 1 0) xs ys

-- a test that comes to one of two others
pub count-two : {X : Type 0} (f g h : X → Bool)
    → ((x : X) → one_if (f x) ≡ one_if (g x) + one_if (h x))
    → (xs : List X) → count_by f xs ≡ count_by g xs + count_by h xs
count-two f g h e [] = refl
count-two f g h e (x ∷ xs) =
    let a = count-cons f x xs in
    let b = count-cons g x xs in
    let c = count-cons h x xs in
    let here = e x in
    let rest = count-two f g h e xs in
    omega (arith, a, b, c, here, rest)

-- what passes one test passes the other
pub count-less : {X : Type 0} (f g : X → Bool) → ((x : X) → f x ≡ true → g x ≡ true)
    → (xs : List X) → count_by f xs ≤ count_by g xs
count-less f g w [] = omega arith
count-less f g w (x ∷ xs) =
    let a = count-cons f x xs in
    let b = count-cons g x xs in
    let here = less (f x) (g x) (w x) in
    let rest = count-less f g w xs in
    omega (arith, a, b, here, rest)
  where
    less : (c d : Bool) → (c ≡ true → d ≡ true) → one_if c ≤ one_if d
    less true d h = rw (h refl) (omega arith)
    less false d h = omega arith

pub count-none : {X : Type 0} (f : X → Bool) (xs : List X) → All (λ x. f x ≡ false) xs
    → count_by f xs ≡ 0
count-none f [] all = refl
count-none f (x ∷ xs) all =
    let a = count-cons f x xs in
    let here : one_if (f x) ≡ 0 = ap one_if (All-head (λ y. f y ≡ false) x xs all) in
    let rest = count-none f xs (All-tail (λ y. f y ≡ false) x xs all) in
    omega (arith, a, here, rest)

-- tests that come to the same on the list
pub count-alike : {X : Type 0} (f g : X → Bool) (xs : List X) → All (λ x. f x ≡ g x) xs
    → count_by f xs ≡ count_by g xs
count-alike f g [] all = refl
count-alike f g (x ∷ xs) all =
    let a = count-cons f x xs in
    let b = count-cons g x xs in
    let here = ap one_if (All-head (λ y. f y ≡ g y) x xs all) in
    let rest = count-alike f g xs (All-tail (λ y. f y ≡ g y) x xs all) in
    omega (arith, a, b, here, rest)

pub count-filter : {X : Type 0} (f g : X → Bool) (xs : List X)
    → count_by f (filter g xs) ≡ count_by (λ x. f x && g x) xs
count-filter f g [] = refl
count-filter f g (x ∷ xs) = by (g x) refl (count-filter f g xs)
  where
    and_no : (b : Bool) → (b && false) ≡ false
    and_no true = refl
    and_no false = refl

    and_yes : (b : Bool) → (b && true) ≡ b
    and_yes true = refl
    and_yes false = refl

    by : (b : Bool) → b ≡ g x → count_by f (filter g xs) ≡ count_by (λ y. f y && g y) xs
        → count_by f (cond b (x ∷ filter g xs) (filter g xs)) ≡ count_by (λ y. f y && g y) (x ∷ xs)
    by true r ih =
        let a = count-cons f x (filter g xs) in
        let c = count-cons (λ y. f y && g y) x xs in
        let here : one_if (f x && g x) ≡ one_if (f x) =
        ap one_if (ap (λ d. f x && d) (sym r) ∙ and_yes (f x)) in
        omega (arith, a, c, here, ih)
    by false r ih =
        let c = count-cons (λ y. f y && g y) x xs in
        let here : one_if (f x && g x) ≡ 0 =
        ap one_if (ap (λ d. f x && d) (sym r) ∙ and_no (f x)) in
        omega (arith, c, here, ih)

-- a list that grows step by step, of each step by moves of that step that pass no oftener than its
-- bound says: as many of its moves are of a step and pass
module _ (f : Move → Bool) (X Y : ℕ → List Move) (most : ℕ → ℕ)
    (none : X 0 ≡ []) (next : (t : ℕ) → X (suc t) ≡ X t ++ Y t)
    (now : (t : ℕ) → All (λ m. m.step ≡ t) (Y t))
    (bound : (t : ℕ) → count_by f (Y t) ≤ most t) where
  earlier : (t : ℕ) → All (λ m. m.step < t) (X t)
  earlier zero = subst (λ L. All (λ m. m.step < 0) L) (sym none) (All-nil (λ m. m.step < 0))
  earlier (suc t) =
      subst (λ L. All (λ m. m.step < suc t) L) (sym (next t))
      (All-append (λ m. m.step < suc t) (X t) (Y t)
      (All-weaker (λ m. m.step < t) (λ m. m.step < suc t) (λ m h. omega (arith, h)) (X t)
      (earlier t))
      (All-weaker (λ m. m.step ≡ t) (λ m. m.step < suc t) (λ m h. omega (arith, h)) (Y t) (now t)))

  pub in-step : (t s : ℕ) → count_by (λ m. f m && nat_eq m.step s) (X t) ≤ most s
  in-step zero s = rw none (omega arith)
  in-step (suc t) s = by (eqb_tells t s) (in-step t s)
    where
      other_step : (b c : Bool) → c ≡ false → (b && c) ≡ false
      other_step true c h = h
      other_step false c h = refl

      passes : (b c : Bool) → (b && c) ≡ true → b ≡ true
      passes true c h = refl
      passes false c h = h

      both : count_by (λ m. f m && nat_eq m.step s) (X (suc t))
          ≡ count_by (λ m. f m && nat_eq m.step s) (X t)
          + count_by (λ m. f m && nat_eq m.step s) (Y t)
      both = ap (λ L. count_by (λ m. f m && nat_eq m.step s) L) (next t)
          ∙ count-append (λ m. f m && nat_eq m.step s) (X t) (Y t)

      by : ((eqb t s ≡ true) × (t ≡ s)) ⊎ ((eqb t s ≡ false) × (t ≢ s))
          → count_by (λ m. f m && nat_eq m.step s) (X t) ≤ most s
          → count_by (λ m. f m && nat_eq m.step s) (X (suc t)) ≤ most s
      by (inl (e, same)) ih =
          let before : count_by (λ m. f m && nat_eq m.step s) (X t) ≡ 0 =
          count-none (λ m. f m && nat_eq m.step s) (X t)
          (All-weaker (λ m. m.step < t) (λ m. (f m && nat_eq m.step s) ≡ false)
          (λ m h. other_step (f m) (nat_eq m.step s) (grind (arith, nat_tests))) (X t)
          (earlier t)) in
          let less = count-less (λ m. f m && nat_eq m.step s) f
          (λ m h. passes (f m) (nat_eq m.step s) h) (Y t) in
          let these : count_by f (Y t) ≤ most s =
          subst (λ k. count_by f (Y t) ≤ most k) same (bound t) in
          omega (arith, both, before, less, these)
      by (inr (e, other)) ih =
          let after : count_by (λ m. f m && nat_eq m.step s) (Y t) ≡ 0 =
          count-none (λ m. f m && nat_eq m.step s) (Y t)
          (All-weaker (λ m. m.step ≡ t) (λ m. (f m && nat_eq m.step s) ≡ false)
          (λ m h. other_step (f m) (nat_eq m.step s) (grind (arith, nat_tests))) (Y t) (now t)) in
          omega (arith, both, after, ih)
