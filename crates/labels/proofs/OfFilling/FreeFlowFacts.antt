-- What is left only falls, and stays short.
use Rattle.std.proofs.Common.{◌≡◌, ℕ, zero, suc, ◌+◌, ◌*◌, ◌<◌, ◌≤◌, Bool, true, false, cond, List, [], ◌∷◌, length, arith, get_or, ◌⊎◌, inl, inr, ap, mul-le-mul_right}
use Rattle.std.specs.Prelude.{◌≢◌, replicate, slice_set, sum, All, nat_lt}
use Rattle.std.proofs.lemmas.Grind.{common_steps, get_or-set_at}
use Rattle.std.proofs.lemmas.Bool.{cases_lt}
use Rattle.std.proofs.lemmas.Bool.Decides.{eqb_tells, nat_tests}
use Rattle.std.proofs.Math.Dec.{eqb}
use Rattle.std.proofs.lemmas.List.Sums.{sum_by-le, sum_by-set}
use Rattle.std.proofs.lemmas.List.{get_or-replicate, length-replicate, get_or-set_other}
use Rattle.std.proofs.lemmas.List.Elements.{All-set}
use Rattle.labels.specs.declared.states.onward.Onward.{Onward}
use Rattle.labels.specs.Filling.Rests.{over, least_over}
use Rattle.labels.proofs.OfFilling.LeastOver.{least_over_le}
use Rattle.labels.specs.Filling.FreeFlow.{still, still_least, value, AreAbove, AreShort, is_known, known}
use Rattle.net_core.specs.declared.rows.TheConstants.{MOST_LINKS}
use Rattle.labels.specs.Filling.Labels.{most_span, far}
use Rattle.labels.specs.Filling.Tails.{most_tail}
use Rattle.labels.specs.declared.states.router.Router.{Router}
use Rattle.labels.specs.States.RouterWays.{is_own, onwards}

-- lower numbers give a lower least
least_lower : (a b free : List ℕ) → ((k : ℕ) → get_or a k 0 ≤ get_or b k 0) → (ws : List Onward) → still_least a free ws ≤ still_least b free ws
unfolding least_over over
least_lower a b free low [] = omega arith
least_lower a b free low (w ∷ ws) = let here = low w.to in let rest = least_lower a b free low ws in omega arith

value_lower : (free : List ℕ) (r : Router) (zone : ℕ) (a b : List ℕ) → ((k : ℕ) → get_or a k 0 ≤ get_or b k 0) → (s : ℕ) → value free r zone a s ≤ value free r zone b s
value_lower free r zone a b low s = both (is_own r zone s) _ _ (least_lower a b free low (onwards r s))
  where
    both : (c : Bool) (x y : ℕ) → x ≤ y → cond c 0 x ≤ cond c 0 y
    both true x y h = omega arith
    both false x y h = h

pub set_lower : (tail : List ℕ) (i v : ℕ) → v < get_or tail i 0 → (k : ℕ) → get_or (slice_set tail i v) k 0 ≤ get_or tail k 0
set_lower [] i v g k = grind arith
set_lower (x ∷ tail) zero v g zero = omega arith
set_lower (x ∷ tail) zero v g (suc k) = omega arith
set_lower (x ∷ tail) (suc i) v g zero = omega arith
set_lower (x ∷ tail) (suc i) v g (suc k) = set_lower tail i v g k

pub AreAbove_set : (free : List ℕ) (r : Router) (zone : ℕ) (tail : List ℕ) (i v : ℕ) → value free r zone tail i ≤ v → i < length tail → v < get_or tail i 0 → AreAbove free r zone tail → AreAbove free r zone (slice_set tail i v)
AreAbove_set free r zone tail i v e h g above l within =
    let lower = value_lower free r zone (slice_set tail i v) tail (set_lower tail i v g) l in
    at_place (eqb_tells l i) lower
  where
    at_place : ((eqb l i ≡ true) × (l ≡ i)) ⊎ ((eqb l i ≡ false) × (l ≢ i)) → value free r zone (slice_set tail i v) l ≤ value free r zone tail l → value free r zone (slice_set tail i v) l ≤ get_or (slice_set tail i v) l 0
    at_place (inl (t, same)) lower =
        let here : get_or (slice_set tail i v) l 0 ≡ v = get_or-set_at tail i l v 0 same h in
        let own : value free r zone tail l ≡ value free r zone tail i = ap (λ k. value free r zone tail k) same in
        omega arith
    at_place (inr (t, other)) lower =
        let here : get_or (slice_set tail i v) l 0 ≡ get_or tail l 0 = get_or-set_other tail i l v 0 other in
        let was : value free r zone tail l ≤ get_or tail l 0 = above l (grind (arith, common_steps)) in
        omega arith

pub sum_set_less : (tail : List ℕ) (i v : ℕ) → i < length tail → v < get_or tail i 0 → sum (slice_set tail i v) + 1 ≤ sum tail
sum_set_less tail i v h g = let s = sum_by-set (λ x. x) tail i v 0 h in grind (arith, common_steps)

-- one more walk is known, or as many
known_more : (tail : List ℕ) (i v : ℕ) → i < length tail → v < far → (known tail ≤ known (slice_set tail i v)) × (far ≤ get_or tail i 0 → known tail + 1 ≤ known (slice_set tail i v))
known_more tail i v h low =
    let s = sum_by-set is_known tail i v 0 h in
    let one : is_known v ≡ 1 = grind (arith, nat_tests) in
    by s one (cases_lt (get_or tail i 0) far)
  where
    by : known (slice_set tail i v) + is_known (get_or tail i 0) ≡ known tail + is_known v → is_known v ≡ 1 → (get_or tail i 0 < far) ⊎ (far ≤ get_or tail i 0) → (known tail ≤ known (slice_set tail i v)) × (far ≤ get_or tail i 0 → known tail + 1 ≤ known (slice_set tail i v))
    by s one (inl x) = let o : is_known (get_or tail i 0) ≡ 1 = grind (arith, nat_tests) in (omega arith, λ y. absurd (omega arith))
    by s one (inr x) = let o : is_known (get_or tail i 0) ≡ 0 = grind (arith, nat_tests) in (omega arith, λ y. omega arith)

-- what a new number may be: at most a span more than what is known
pub AreShort_set : (tail : List ℕ) (i v : ℕ) → i < length tail → v < get_or tail i 0 → All (λ x. x ≤ far) tail → v ≤ known tail * most_span + most_span → AreShort tail → AreShort (slice_set tail i v)
AreShort_set tail i v h g low most short =
    let old : get_or tail i 0 ≤ far = low i 0 h in
    let more = known_more tail i v h (omega arith) in
    let grows : known tail * most_span ≤ known (slice_set tail i v) * most_span = mul-le-mul_right most_span (more.0) in
    let fits : v ≤ known (slice_set tail i v) * most_span = by (more.1) grows (cases_lt (get_or tail i 0) far) in
    All-set (λ x. x < far → x ≤ known (slice_set tail i v) * most_span) tail i v (λ n. fits) (λ k d within n. let was = short k d within n in omega (arith, was, grows))
  where
    by : (far ≤ get_or tail i 0 → known tail + 1 ≤ known (slice_set tail i v)) → known tail * most_span ≤ known (slice_set tail i v) * most_span → (get_or tail i 0 < far) ⊎ (far ≤ get_or tail i 0) → v ≤ known (slice_set tail i v) * most_span
    by one grows (inl x) = let was = short i 0 h x in omega (arith, was, grows)
    by one grows (inr x) = let n = one x in omega (arith, n, most)

-- where no walk is known yet
pub start_low : (n : ℕ) → All (λ x. x ≤ far) (replicate n far)
start_low n k d h = let e = get_or-replicate n k far d (let m = length-replicate n far in omega (arith, m, h)) in omega (arith, e)

pub start_short : (n : ℕ) → AreShort (replicate n far)
start_short n k d h below = let e = get_or-replicate n k far d (let m = length-replicate n far in omega (arith, m, h)) in absurd (omega (arith, e, below))

pub start_above : (free : List ℕ) (r : Router) (zone n : ℕ) → AreAbove free r zone (replicate n far)
start_above free r zone n s h =
    let e = get_or-replicate n s far 0 (let m = length-replicate n far in omega (arith, m, h)) in
    by (is_own r zone s) (still_least (replicate n far) free (onwards r s)) (least_over_le (still free) far (still (replicate n far)) 0 (onwards r s)) e
  where
    by : (b : Bool) (x : ℕ) → x ≤ far → get_or (replicate n far) s 0 ≡ far → cond b 0 x ≤ get_or (replicate n far) s 0
    by true x low e = omega (arith, e)
    by false x low e = omega (arith, e, low)

-- walks that are known are no more than states
pub known_few : (tail : List ℕ) → known tail ≤ length tail
known_few tail = let s = sum_by-le is_known 1 tail (λ k d h. one (get_or tail k d)) in omega (arith, s)
  where
    by : (b : Bool) → cond b 1 0 ≤ 1
    by true = omega arith
    by false = omega arith

    one : (x : ℕ) → is_known x ≤ 1
    one x = by (nat_lt x far)

-- so what is left in free flow is within a long span for each state
pub short_near : (tail : List ℕ) → length tail ≤ MOST_LINKS → AreShort tail
    → All (λ x. x < far → x ≤ most_tail) tail
short_near tail few short k d h below =
    let s = short k d h below in
    let n = known_few tail in
    omega (arith, s, n, few)
