-- What passes in steps, by what each step allows.
use Rattle.std.specs.List.{range_with_len}
use Rattle.std.specs.Prelude.{All, count_by, nat_eq, nat_le, nat_lt, sum_by}
use Rattle.std.proofs.Common.{◌≡◌, ℕ, zero, suc, ◌+◌, ◌-◌, ◌*◌, ◌/◌, ◌<◌, ◌≤◌, Bool, true, false}
use Rattle.std.proofs.Common.{◌&&◌, List, [], ◌∷◌, ◌++◌, refl, ap, ◌∙◌, arith, add-one, Some, ◌⊎◌}
use Rattle.std.proofs.Common.{inl, inr}
use Rattle.std.proofs.lemmas.Bool.{cases_lt}
use Rattle.std.proofs.lemmas.Bool.Decides.{nat_tests}
use Rattle.std.proofs.lemmas.List.Sums.{sum_by-cons}
use Rattle.net_core.specs.Rates.{rate_in}
use Rattle.net_core.specs.declared.rates.Rates.{Rates}
use Rattle.dta_model.specs.Allowance.{allowance, credited, parts}
use Rattle.dta_model.specs.Trace.{Move}
use Rattle.traffic_laws.specs.Capacity.{IsWithin, given, made_within}
use Rattle.std.proofs.lemmas.List.Elements.{All-weaker}
use Rattle.traffic_laws.proofs.Counts.{count-alike, count-append, count-none, count-two, count-less}
use Rattle.traffic_laws.proofs.Counts.{one_if}

next_part : (rates : Rates) (delta t : ℕ)
    → parts rates delta (suc t) ≡ parts rates delta t + credited (rate_in rates t) * delta
unfolding parts
next_part rates delta t = refl

no_part : (rates : Rates) (delta : ℕ) → parts rates delta 0 ≡ 0
unfolding parts
no_part rates delta = refl

abbrev step_parts : Rates → ℕ → ℕ → ℕ
step_parts rates delta step = credited (rate_in rates step) * delta

-- what rates give in so many steps is the sum over them
parts-more : (rates : Rates) (delta s n : ℕ)
    → parts rates delta (s + n)
    ≡ parts rates delta s + sum_by (step_parts rates delta) (range_with_len s n)
parts-more rates delta s zero =
    let e : s + 0 ≡ s = omega arith in
    rw e (omega arith)
parts-more rates delta s (suc n) =
    let e : s + suc n ≡ (s + 1) + n = omega arith in
    let rest = parts-more rates delta (s + 1) n in
    let one : parts rates delta (s + 1) ≡ parts rates delta s + step_parts rates delta s =
    ap (λ k. parts rates delta k) (add-one s) ∙ next_part rates delta s in
    let sum = sum_by-cons (step_parts rates delta) s (range_with_len (s + 1) n) in
    rw e (omega (arith, rest, one, sum))

-- an allowance is what is full by its step's end, without what was full by its start
allowance-fills : (rates : Rates) (delta s : ℕ)
    → allowance rates delta s + parts rates delta s / 3600000000
    ≡ parts rates delta (suc s) / 3600000000
unfolding allowance
allowance-fills rates delta s =
    let one = next_part rates delta s in
    rw (add-one s)
    (filled (parts rates delta s) (step_parts rates delta s) (parts rates delta (suc s)) one)
  where
    filled : (a b c : ℕ) → c ≡ a + b
        → (c / 3600000000 - a / 3600000000) + a / 3600000000 ≡ c / 3600000000
    filled a b c e = omega (arith, e)

-- moves that pass a test, of which each step has no more than its allowance
module _ (rates : Rates) (delta : ℕ) (test : Move → Bool) (moves : List Move)
    (one : (s : ℕ)
    → count_by (λ m. test m && nat_eq m.step s) moves ≤ allowance rates delta s) where
  none-made : (s u : ℕ) → u ≤ s → made_within test moves s u ≤ 0
  none-made s u h =
      let less = count-less (λ m. test m && nat_le s m.step && nat_lt m.step u) (λ m. false)
      (λ m e. outside (test m) m.step e) moves in
      let none = nothing moves in omega (arith, less, none)
    where
      outside : (b : Bool) (k : ℕ) → (b && nat_le s k && nat_lt k u) ≡ true → false ≡ true
      outside b k e = grind (arith, nat_tests)

      nothing : (L : List Move) → count_by (λ m. false) L ≡ 0
      nothing [] = refl
      nothing (m ∷ L) = nothing L

  one-more : (s u : ℕ) → s ≤ u
      → made_within test moves s (suc u)
      ≡ made_within test moves s u + count_by (λ m. test m && nat_eq m.step u) moves
  one-more s u h =
      count-two (λ m. test m && nat_le s m.step && nat_lt m.step (suc u))
      (λ m. test m && nat_le s m.step && nat_lt m.step u) (λ m. test m && nat_eq m.step u)
      (λ m. split (test m) m.step) moves
    where
      split : (b : Bool) (k : ℕ)
          → one_if (b && nat_le s k && nat_lt k (suc u))
          ≡ one_if (b && nat_le s k && nat_lt k u) + one_if (b && nat_eq k u)
      split true k = grind (arith, nat_tests)
      split false k = refl

  filled : (s n : ℕ)
      → made_within test moves s (s + n) + parts rates delta s / 3600000000
      ≤ parts rates delta (s + n) / 3600000000
  filled s zero =
      let e : s + 0 ≡ s = omega arith in
      let none = none-made s s (omega arith) in
      rw e (omega (arith, none))
  filled s (suc n) =
      let e : s + suc n ≡ suc (s + n) = omega arith in
      let so_far = filled s n in
      let more = one-more s (s + n) (omega arith) in
      let now = one (s + n) in
      let fills = allowance-fills rates delta (s + n) in
      rw e (omega (arith, so_far, more, now, fills))

  over-steps : (s n : ℕ)
      → made_within test moves s (s + n) * 3600000000
      < sum_by (step_parts rates delta) (range_with_len s n) + 3600000000
  over-steps s n =
      let most = filled s n in
      let sum = parts-more rates delta s n in
      omega (arith, most, sum)

  from-start : (u : ℕ) → made_within test moves 0 u * 3600000000 ≤ given rates delta 0 u
  from-start u =
      let e : 0 + u ≡ u = omega arith in
      let f : u - 0 ≡ u = omega arith in
      let most = filled 0 u in
      let sum = parts-more rates delta 0 u in
      let none = no_part rates delta in
      let k = rw e at most in
      let j = rw e at sum in
      rw f (omega (arith, k, j, none))

  any-steps : (s u : ℕ)
      → made_within test moves s u * 3600000000 < given rates delta s u + 3600000000
  any-steps s u = by (cases_lt s u)
    where
      by : (s < u) ⊎ (u ≤ s)
          → made_within test moves s u * 3600000000 < given rates delta s u + 3600000000
      by (inl h) =
          let e : s + (u - s) ≡ u = omega (arith, h) in
          let most = over-steps s (u - s) in
          rw e at most
      by (inr h) =
          let none = none-made s u h in
          omega (arith, none)

  same-sum : (rate n s : ℕ) → ((k : ℕ) → s ≤ k → k < s + n → rate_in rates k ≡ Some rate)
      → sum_by (step_parts rates delta) (range_with_len s n) ≡ n * (rate * delta)
  same-sum rate zero s h = omega arith
  same-sum rate (suc n) s h =
      let sum = sum_by-cons (step_parts rates delta) s (range_with_len (s + 1) n) in
      let rest = same-sum rate n (s + 1) (λ k a b. h k (omega (arith, a)) (omega (arith, b))) in
      let here : step_parts rates delta s ≡ rate * delta =
      ap (λ o. credited o * delta) (h s (omega arith) (omega arith)) in
      omega (arith, sum, rest, here)

  pub are-within : IsWithin rates delta (made_within test moves)
  are-within = record {
    step = λ s. by_step s;
    start = from-start;
    steps = any-steps;
    steady = λ s u rate h same. by_rate s u rate h same;
  }
    where
      by_step : (s : ℕ) → made_within test moves s (suc s) ≤ allowance rates delta s
      by_step s =
          let none = none-made s s (omega arith) in
          let more = one-more s s (omega arith) in
          let now = one s in
          omega (arith, none, more, now)

      by_rate : (s u rate : ℕ) → s ≤ u → ((k : ℕ) → s ≤ k → k < u → rate_in rates k ≡ Some rate)
          → made_within test moves s u * 3600000000 < (u - s) * (rate * delta) + 3600000000
      by_rate s u rate h same =
          let e : s + (u - s) ≡ u = omega (arith, h) in
          let most = any-steps s u in
          let sum = same-sum rate (u - s) s (λ k a b. same k a (omega (arith, b, e))) in
          omega (arith, most, sum)

-- the moves of step t among those up to it
pub made-now : (test : Move → Bool) (X Y : List Move) (t : ℕ) → All (λ m. m.step < t) X
    → All (λ m. m.step ≡ t) Y → made_within test (X ++ Y) t (suc t) ≡ count_by test Y
made-now test X Y t early now =
    let both = count-append (λ m. test m && nat_le t m.step && nat_lt m.step (suc t)) X Y in
    let none = count-none (λ m. test m && nat_le t m.step && nat_lt m.step (suc t)) X
    (All-weaker (λ m. m.step < t)
    (λ m. (test m && nat_le t m.step && nat_lt m.step (suc t)) ≡ false)
    (λ m h. outside (test m) m.step h) X early) in
    let all = count-alike (λ m. test m && nat_le t m.step && nat_lt m.step (suc t)) test Y
    (All-weaker (λ m. m.step ≡ t)
    (λ m. (test m && nat_le t m.step && nat_lt m.step (suc t)) ≡ test m)
    (λ m h. inside (test m) m.step h) Y now) in
    omega (arith, both, none, all)
  where
    outside : (c : Bool) (k : ℕ) → k < t → (c && nat_le t k && nat_lt k (suc t)) ≡ false
    outside true k h = grind (arith, nat_tests)
    outside false k h = refl

    inside : (c : Bool) (k : ℕ) → k ≡ t → (c && nat_le t k && nat_lt k (suc t)) ≡ c
    inside true k h = grind (arith, nat_tests)
    inside false k h = refl
