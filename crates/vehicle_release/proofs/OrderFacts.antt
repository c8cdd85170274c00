-- A list that is sorted and keeps ties, as the list by steps.
use Rattle.std.proofs.Common.{◌≡◌, ℕ, zero, suc, ◌+◌, ◌<◌, ◌≤◌, List, [], ◌∷◌, length, get_or, All, arith, refl, ap, sym, ◌∙◌, not, ◌&&◌, ⊎_elim}
use Rattle.std.specs.Prelude.{nat_eq, filter, ⊤}
use Rattle.std.specs.Ordering.{is_lt, nat_cmp}
use Rattle.std.specs.List.{flat_map, range_with_len}
use Rattle.std.specs.List.Sorted.{IsNonDecreasingBy, IsStableByKey, IsPermutation, ties}
use Rattle.std.proofs.lemmas.List.Sorted.{All-permutation}
use Rattle.std.proofs.lemmas.Bool.{ne_eqb}
use Rattle.std.proofs.lemmas.Bool.Decides.{eqb_tells, nat_tests}

-- two numbers tie where they are equal
ties-numbers : (a b : ℕ) → not (is_lt (nat_cmp a b)) && not (is_lt (nat_cmp b a)) ≡ nat_eq b a
ties-numbers a b = grind (arith, nat_tests)

module _ {X : Type 0} (key : X → ℕ) where
  -- those of a step
  abbrev pub of_step : ℕ → List X → List X
  of_step step xs = filter (λ x. nat_eq (key x) step) xs

  -- those of the steps from one on, so many, step by step
  abbrev pub by_steps : ℕ → ℕ → List X → List X
  by_steps from n xs = flat_map (λ step. of_step step xs) (range_with_len from n)

  -- no key is below a number
  abbrev pub AllFrom : ℕ → List X → Type 0
  AllFrom low [] = ⊤
  AllFrom low (x ∷ xs) = (low ≤ key x) × AllFrom low xs

  -- keys don't fall
  abbrev pub Rises : List X → Type 0
  Rises [] = ⊤
  Rises (x ∷ xs) = AllFrom (key x) xs × Rises xs

  -- keys are below a number
  abbrev pub AllUnder : ℕ → List X → Type 0
  AllUnder high [] = ⊤
  AllUnder high (x ∷ xs) = (key x < high) × AllUnder high xs

  -- none is of a step before all of them
  of_step-before : (step low : ℕ) (xs : List X) → step < low → AllFrom low xs → of_step step xs ≡ []
  of_step-before step low [] before all = refl
  of_step-before step low (x ∷ xs) before all =
      rw (ne_eqb (key x) step (λ e. absurd (omega (arith, all.0)))) (of_step-before step low xs before all.1)

  -- one that is of no later step doesn't stand among the later steps
  by_steps-past : (from n : ℕ) (x : X) (xs : List X) → key x < from
      → by_steps from n (x ∷ xs) ≡ by_steps from n xs
  by_steps-past from zero x xs past = refl
  by_steps-past from (suc n) x xs past =
      rw (ne_eqb (key x) from (λ e. absurd (omega arith)), by_steps-past (from + 1) n x xs (omega arith)) refl

  -- the first of a rising list stands first
  by_steps-first : (from n : ℕ) (x : X) (xs : List X) → from ≤ key x → key x < from + n
      → AllFrom (key x) xs → by_steps from n (x ∷ xs) ≡ x ∷ by_steps from n xs
  by_steps-first from zero x xs low high all = absurd (omega arith)
  by_steps-first from (suc n) x xs low high all =
      ⊎_elim
      (λ here. let later = by_steps-past (from + 1) n x xs (omega (arith, here.1)) in rw (here.0, later) refl)
      (λ away.
      let after : from < key x = omega (arith, away.1) in
      let none : of_step from xs ≡ [] = of_step-before from (key x) xs after all in
      let later = by_steps-first (from + 1) n x xs (omega arith) (omega arith) all in
      rw (away.0, none, later) refl)
      (eqb_tells (key x) from)

  by_steps-none : (from n : ℕ) → by_steps from n [] ≡ []
  by_steps-none from zero = refl
  by_steps-none from (suc n) = by_steps-none (from + 1) n

  -- a rising list is itself by its steps
  by_steps-rising : (n : ℕ) (xs : List X) → Rises xs → AllUnder n xs → by_steps 0 n xs ≡ xs
  by_steps-rising n [] up under = by_steps-none 0 n
  by_steps-rising n (x ∷ xs) up under = by_steps-first 0 n x xs (omega arith) (omega (arith, under.0)) up.0 ∙ ap (λ l. x ∷ l) (by_steps-rising n xs up.1 under.1)

  all_from : (low : ℕ) (xs : List X) → ((k : ℕ) (d : X) → k < length xs → low ≤ key (get_or xs k d))
      → AllFrom low xs
  all_from low [] each = tt
  all_from low (x ∷ xs) each = (each 0 x (omega arith), all_from low xs (λ k d inside. each (suc k) d (omega arith)))

  rises_from : (xs : List X) → IsNonDecreasingBy key xs → Rises xs
  rises_from [] up = tt
  rises_from (x ∷ xs) up =
      (all_from (key x) xs (λ k d inside. up 0 (suc k) d (omega arith) (omega arith)), rises_from xs (λ i j d le inside. up (suc i) (suc j) d (omega arith) (omega arith)))

  all_under : (high : ℕ) (xs : List X) → All (λ x. key x < high) xs → AllUnder high xs
  all_under high [] each = tt
  all_under high (x ∷ xs) each = (each 0 x (omega arith), all_under high xs (λ k d inside. each (suc k) d (omega arith)))

  -- a stable sort keeps those of a step as they stand
  of_step-stable : (step : ℕ) (x : X) (xs ys : List X) → key x ≡ step → IsStableByKey key nat_cmp xs ys
      → of_step step ys ≡ of_step step xs
  of_step-stable step x xs ys is stable =
      let tie : (y : X)
      → ties (λ a b. is_lt (nat_cmp (key a) (key b))) x y ≡ nat_eq (key y) step = λ y. ties-numbers (key x) (key y) ∙ ap (λ n. nat_eq (key y) n) is in
      (λ i. filter (λ y. sym (tie y) i) ys) ∙ stable x ∙ (λ i. filter (λ y. tie y i) xs)

  -- what a stable sort by the key gives is the list by its steps
  pub sorted_by_steps : (make : ℕ → X) → ((step : ℕ) → key (make step) ≡ step)
      → (n : ℕ) (xs ys : List X) → All (λ x. key x < n) xs
      → IsPermutation xs ys → IsNonDecreasingBy key ys → IsStableByKey key nat_cmp xs ys
      → ys ≡ by_steps 0 n xs
  sorted_by_steps make makes n xs ys under same up stable =
      sym (by_steps-rising n ys (rises_from ys up) (all_under n ys (All-permutation (λ x. key x < n) xs ys same under)))
      ∙ (λ i. flat_map (λ step. of_step-stable step (make step) xs ys (makes step) stable i) (range_with_len 0 n))
