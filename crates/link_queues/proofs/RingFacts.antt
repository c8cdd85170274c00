-- A ring of numbers, read from a place on.
use Rattle.std.proofs.Common.{ap, arith, sym, ◌∙◌}
use Rattle.std.proofs.Math.Seq.{take-append-add}
use Rattle.std.proofs.lemmas.List.{append-nil, drop-set, length-drop, length-take-le, take-append-le, take-set}
use Rattle.std.proofs.lemmas.List.{length-append, length-set, take_more}
use Rattle.std.proofs.lemmas.List.Elements.{All-set, All-weaker}
use Rattle.std.proofs.lemmas.List.Sums.{get_or-le-sum_by, sum_by-append, sum_by-le, sum_by-set}
use Rattle.std.proofs.lemmas.List.Sums.{sum_by-take-drop}
use Rattle.std.proofs.Math.ListN.{get_or, replicate, set}
use Rattle.std.specs.List.{range_with_len, sum}
use Rattle.std.specs.Prelude.{◌≡◌, ◌≤◌, ◌<◌, ◌+◌, ◌-◌, ◌++◌, ◌∷◌, [], ℕ, List, All, drop, length}
use Rattle.std.specs.Prelude.{map, refl, suc, take, zero}
use Rattle.link_queues.specs.Leavings.{no_leavings, pushed}
use Rattle.link_queues.specs.LeavingsInside.{round_from}

take_first : (m k x : ℕ) (ys : List ℕ) → m ≡ suc k → x ∷ take k ys ≡ take m (x ∷ ys)
take_first m k x ys many = sym (ap (λ j. take j (x ∷ ys)) many)

take_same : (n : ℕ) (xs : List ℕ) → take n (take n xs) ≡ take n xs
take_same zero xs = refl
take_same (suc n) [] = refl
take_same (suc n) (x ∷ xs) = ap (λ ys. x ∷ ys) (take_same n xs)

-- a round has as many numbers as the ring
pub length_round : (n : ℕ) (xs : List ℕ) → n ≤ length xs → length (round_from n xs) ≡ length xs
length_round n xs h =
    let joined = length-append (drop n xs) (take n xs) in
    let behind = length-drop n xs in
    let ahead = length-take-le n xs h in
    omega (arith, joined, behind, ahead, h)

-- all numbers but the last of a ring that is read from after a place on
but_last : (n : ℕ) (xs : List ℕ) → n < length xs
    → take (length xs - 1) (round_from (n + 1) xs) ≡ drop (n + 1) xs ++ take n xs
but_last n xs h =
    let behind = length-drop (n + 1) xs in
    let many : length xs - 1 ≡ length (drop (n + 1) xs) + n = omega (arith, behind, h) in
    let fewer : n ≤ length (take n xs) = omega (arith, length-take-le n xs (omega (arith, h))) in
    let one_more = take_more xs n 0 h in
    ap (λ k. take k (round_from (n + 1) xs)) many
    ∙ take-append-add (drop (n + 1) xs) (take (n + 1) xs) n
    ∙ ap (λ ys. drop (n + 1) xs ++ ys)
    (ap (take n) one_more
    ∙ take-append-le n (take n xs) (get_or xs n 0 ∷ []) fewer
    ∙ take_same n xs)

-- a number put in the place before the newest is the latest, and the oldest is gone
pub put_before : (n : ℕ) (xs : List ℕ) (x : ℕ) → n < length xs
    → round_from n (set xs n x) ≡ pushed x (round_from (n + 1) xs)
put_before n xs x h =
    let many = length_round (n + 1) xs (omega (arith, h)) in
    ap (λ ys. ys ++ take n (set xs n x)) (drop-set xs n x h)
    ∙ ap (λ ys. (x ∷ drop (n + 1) xs) ++ ys) (take-set xs n x)
    ∙ ap (λ ys. x ∷ ys) (sym (but_last n xs h))
    ∙ take_first (length xs) (length xs - 1) x (round_from (n + 1) xs) (omega (arith, h))
    ∙ ap (λ k. take k (x ∷ round_from (n + 1) xs)) (sym many)

-- the sum is that of the list
pub sum_round : (n : ℕ) (xs : List ℕ) → sum (round_from n xs) ≡ sum xs
sum_round n xs =
    let joined = sum_by-append (λ x. x) (drop n xs) (take n xs) in
    let parts = sum_by-take-drop (λ x. x) xs n in
    omega (arith, joined, parts)

below_is_most : (xs : List ℕ) → All (λ x. x < 4294967296) xs → All (λ x. x ≤ 4294967295) xs
below_is_most xs small =
    All-weaker (λ x. x < 4294967296) (λ x. x ≤ 4294967295) (λ x h. omega (arith, h)) xs small

-- the sum of fewer than 2^32 numbers below 2^32 is below 2^64
sum_fits : (xs : List ℕ) → length xs < 4294967296 → All (λ x. x < 4294967296) xs
    → sum xs < 18446744073709551616
sum_fits xs few small =
    let most = sum_by-le (λ y. y) 4294967295 xs (below_is_most xs small) in
    omega (arith, most, few)

-- so is it after a change
pub changed_fits : (n : ℕ) (xs : List ℕ) (x d : ℕ) → n < length xs → length xs < 4294967296
    → All (λ y. y < 4294967296) xs → x < 4294967296
    → sum xs - get_or xs n d + x < 18446744073709551616
changed_fits n xs x d h few small one =
    let many = length-set xs n x in
    let below = All-set (λ y. y < 4294967296) xs n x one small in
    let fits = sum_fits (set xs n x) (omega (arith, many, few)) below in
    let change = sum_by-set (λ y. y) xs n x d h in
    let there = get_or-le-sum_by (λ y. y) xs n d h in
    omega (arith, fits, change, there)

-- a ring of zeros is one of steps in which nobody left
zeros : (count from : ℕ) → replicate {A = ℕ} count 0 ≡ map (λ i. 0) (range_with_len from count)
zeros zero from = refl
zeros (suc count) from = ap (λ ys. 0 ∷ ys) (zeros count (from + 1))

pub new_ring : (count : ℕ) (xs : List ℕ) → xs ≡ replicate {A = ℕ} count 0 → xs ++ [] ≡ no_leavings count
new_ring count xs are = append-nil xs ∙ are ∙ zeros count 0
