-- Numbers in a row.
use Rattle.std.proofs.Common.{◌≡◌, ℕ, zero, suc, ◌+◌, ◌-◌, ◌<◌, ◌≤◌, [], length, refl, sym, ap, ◌∙◌, lt_of_not-le, arith}
use Rattle.std.proofs.lemmas.Bool.Decides.{nat_tests}
use mathlib.Core.Logic.{dite}
use native.Mathlib.Decide.{dec_le}
use Rattle.claim_core.specs.Runs.{among, numbers, run}
use Rattle.claim_core.specs.Sums.{below, is_at, once_below, times}
use Rattle.claim_core.proofs.Cuts.{below_cut, below_none, below_same}

pub among_in : (a b x : ℕ) → a ≤ x → x < b → among a b x ≡ 1
among_in a b x lo hi = grind (arith, nat_tests)

pub among_low : (a b x : ℕ) → x < a → among a b x ≡ 0
among_low a b x lo = grind (arith, nat_tests)

pub among_high : (a b x : ℕ) → b ≤ x → among a b x ≡ 0
among_high a b x hi = grind (arith, nat_tests)

pub is_among : (a b x : ℕ) → 1 ≤ among a b x → (a ≤ x) × (x < b)
is_among a b x h = (grind (arith, nat_tests), grind (arith, nat_tests))

pub among_none : (a x : ℕ) → among a a x ≡ 0
among_none a x = grind (arith, nat_tests)

-- a row in two
pub among_two : (a m b x : ℕ) → a ≤ m → m ≤ b → among a b x ≡ among a m x + among m b x
among_two a m b x lo hi = grind (arith, nat_tests)

pub once_two : (a b x : ℕ) → a ≤ b → once_below x b ≡ once_below x a + among a b x
once_two a b x le = grind (arith, nat_tests)

-- a row of one
pub among_one : (c x : ℕ) → among c (suc c) x ≡ is_at x c
among_one c x = grind (arith, nat_tests)

among_next : (a b x : ℕ) → a < b → among a b x ≡ is_at x a + among (suc a) b x
among_next a b x lt = grind (arith, nat_tests)

-- how many they are
among_until : (a b x : ℕ) → x < b → among a (suc b) x ≡ among a b x
among_until a b x lt = grind (arith, nat_tests)

among_upto : (a b : ℕ) → a ≤ b → below b (among a b) ≡ b - a
among_upto a zero le = omega (arith, le)
among_upto a (suc b) le = dite (dec_le a b)
    (λ more. omega (
      arith,
      more,
      among_upto a b more,
      among_in a (suc b) b more (omega arith),
      below_same (among a (suc b)) (among a b) b (among_until a b),
    ))
    (λ none. let l : b < a = lt_of_not-le none in
    omega (
      arith,
      l,
      le,
      below_none (among a (suc b)) (suc b)
          (λ x lt. among_low a (suc b) x (omega (arith, lt, l))),
    ))

pub below_among : (a b g : ℕ) → a ≤ b → b ≤ g → below g (among a b) ≡ b - a
below_among a b g ab bg =
    omega (
      arith,
      among_upto a b ab,
      below_cut (among a b) (among a b) b g bg (λ x _. refl) (λ x out. among_high a b x out),
    )

-- the same as lists
pub length-run : (a many : ℕ) → length (run a many) ≡ many
length-run a zero = refl
length-run a (suc many) = omega (arith, length-run (suc a) many)

times_run : (a many x : ℕ) → times x (run a many) ≡ among a (a + many) x
times_run a zero x = (let e : a + 0 ≡ a = omega arith in
    sym (ap (λ b. among a b x) e ∙ among_none a x))
times_run a (suc many) x =
    let e : suc a + many ≡ a + suc many = omega arith in
    omega (
      arith,
      times_run (suc a) many x,
      ap (λ b. among (suc a) b x) e,
      among_next a (a + suc many) x (omega arith),
    )

pub times_numbers : (a b x : ℕ) → a ≤ b → times x (numbers a b) ≡ among a b x
times_numbers a b x le =
    times_run a (b - a) x
    ∙ ap (λ m. among a m x) (let e : a + (b - a) ≡ b = omega (arith, le) in e)

pub length-numbers : (a b : ℕ) → length (numbers a b) ≡ b - a
length-numbers a b = length-run a (b - a)

pub numbers_none : (a : ℕ) → numbers a a ≡ []
numbers_none a = ap (λ m. run a m) (let e : a - a ≡ 0 = omega arith in e)
