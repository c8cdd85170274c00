-- Steps that rise, and the rule of watch lines.
use Rattle.std.proofs.Common.{arith, rules, ◌≡◌, ◌<◌, ◌≤◌, ◌*◌, ◌/◌, ◌&&◌, ℕ, zero, suc, List, []}
use Rattle.std.proofs.Common.{◌∷◌, ◌++◌, Bool, true, false, true≢false, refl, sym, ap, ◌∙◌, subst}
use Rattle.std.specs.Prelude.{map, nat_lt}
use mathlib.Core.Logic.{dite}
use native.Mathlib.Decide.{dec_le}
use Rattle.std.proofs.lemmas.Nat.{le-div}
use Rattle.std.proofs.Math.Nat.{div-mul-le_self}
use Rattle.reports.specs.Watch.{AreWatchSteps, multiples, rises_from}
use Rattle.loader.specs.Watching.{last_from}

-- ---- quotients

quotients-rise : (a b k : ℕ) → 0 < k → a ≤ b → a / k ≤ b / k
quotients-rise a b k pos h = let c = div-mul-le_self a k in le-div (a / k) b k pos (omega (arith, c, h))

-- more whole multiples come of more steps
pub multiples-less : (every n m : ℕ) → 1 ≤ every → multiples every n < multiples every m → n < m
multiples-less every n m pos h =
    dite (dec_le m n) (λ le. absurd (let c = quotients-rise m n every pos le in omega (arith, c, h)))
    (λ not_le. omega (arith, not_le))

pub no-multiples : (every : ℕ) → 1 ≤ every → multiples every 0 ≡ 0
no-multiples every pos = let c = div-mul-le_self 0 every in quotient-zero (multiples every 0) every pos c where
  quotient-zero : (q k : ℕ) → 1 ≤ k → q * k ≤ 0 → q ≡ 0
  quotient-zero zero k h le = refl
  quotient-zero (suc q) zero h le = absurd (omega (arith, h))
  quotient-zero (suc q) (suc k) h le = absurd (omega (arith, le))

-- ---- rising numbers

pub rises-cons : (n m : ℕ) (others : List ℕ) → n < m → rises_from m others ≡ true → rises_from n (m ∷ others) ≡ true
rises-cons n m others h r = let above : nat_lt n m ≡ true = search rules in rw above r

and-first : (a b : Bool) → a && b ≡ true → a ≡ true
and-first true b h = refl
and-first false b h = absurd (true≢false (sym h))

and-second : (a b : Bool) → a && b ≡ true → b ≡ true
and-second true b h = h
and-second false b h = absurd (true≢false (sym h))

-- first ones of rising numbers rise
rises-front : (n : ℕ) (xs ys : List ℕ) → rises_from n (xs ++ ys) ≡ true → rises_from n xs ≡ true
rises-front n [] ys h = refl
rises-front n (x ∷ xs) ys h =
    let a = and-first (nat_lt n x) (rises_from x (xs ++ ys)) h in
    let b = rises-front x xs ys (and-second (nat_lt n x) (rises_from x (xs ++ ys)) h) in
    rw a b

-- and with a higher one at the end
rises-push : (n : ℕ) (xs : List ℕ) (m : ℕ) → rises_from n xs ≡ true → last_from n xs < m → rises_from n (xs ++ m ∷ []) ≡ true
rises-push n [] m r h = rises-cons n m [] h refl
rises-push n (x ∷ xs) m r h =
    let a = and-first (nat_lt n x) (rises_from x xs) r in
    let b = rises-push x xs m (and-second (nat_lt n x) (rises_from x xs) r) h in
    rw a b

-- ---- the last one

record Ends (xs : List ℕ) (last : ℕ) : Type 0 where
  before : List ℕ
  is : xs ≡ before ++ last ∷ []

ends : (x : ℕ) (xs : List ℕ) → Ends (x ∷ xs) (last_from x xs)
ends x [] = record { before = []; is = refl }
ends x (y ∷ xs) = let e = ends y xs in record { before = x ∷ e.before; is = ap (λ (l : List ℕ). x ∷ l) e.is }

map-append : (f : ℕ → ℕ) (xs ys : List ℕ) → map f (xs ++ ys) ≡ map f xs ++ map f ys
map-append f [] ys = refl
map-append f (x ∷ xs) ys = ap (λ (l : List ℕ). f x ∷ l) (map-append f xs ys)

-- ---- the rule

apart-front : (every : ℕ) (xs before ys : List ℕ) → xs ≡ before ++ ys
    → rises_from 0 (map (multiples every) xs) ≡ true → rises_from 0 (map (multiples every) before) ≡ true
apart-front every xs before ys is h =
    rises-front 0 (map (multiples every) before) (map (multiples every) ys)
    (subst (λ (l : List ℕ). rises_from 0 l ≡ true) (ap (map (multiples every)) is ∙ map-append (multiples every) before ys) h)

-- steps that end with the horizon are by the rule
pub whole-rule : (every horizon : ℕ) (xs : List ℕ) → 1 ≤ horizon → rises_from 0 xs ≡ true
    → rises_from 0 (map (multiples every) xs) ≡ true → last_from 0 xs ≡ horizon → AreWatchSteps every horizon xs
whole-rule every horizon [] pos rising apart is = absurd (omega (arith, pos, is))
whole-rule every horizon (x ∷ xs) pos rising apart is =
    let e = ends x xs in
    record {
      before = e.before;
      ends = e.is ∙ ap (λ (h : ℕ). e.before ++ h ∷ []) is;
      rising = rising;
      apart = apart-front every (x ∷ xs) e.before (last_from x xs ∷ []) e.is apart;
    }

-- and others are with the horizon after them
pub more-rule : (every horizon : ℕ) (xs : List ℕ) → rises_from 0 xs ≡ true
    → rises_from 0 (map (multiples every) xs) ≡ true → last_from 0 xs < horizon → AreWatchSteps every horizon (xs ++ horizon ∷ [])
more-rule every horizon xs rising apart less = record {
  before = xs;
  ends = refl;
  rising = rises-push 0 xs horizon rising less;
  apart = apart;
}
