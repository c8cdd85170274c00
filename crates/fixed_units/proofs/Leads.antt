-- The leading digits of a number.
use Rattle.std.proofs.Common.{◌≡◌, ℕ, zero, suc, lit<, ◌+◌, ◌-◌, ◌*◌, ◌/◌, ◌^◌, ◌≤◌, ◌<◌, List, [], length, take, get_or, true, arith, ap, ◌∙◌, sym}
use Rattle.std.proofs.Math.Nat.{pow-succ', div-div-eq-div-mul, div-one, pow-le-pow_right, zero-div, div-mul-le_self, mul-le-mul_left, mul_assoc, mul_comm}
use Rattle.fixed_units.specs.declared.leading.Leading.{Leading}
use Rattle.fixed_units.specs.declared.leading.TheConstants.{ENOUGH}
use Rattle.std.proofs.lemmas.List.{take_more}
use Rattle.std.specs.Prelude.{◌==◌}
use Rattle.std.specs.List.{list_all}
use Rattle.fixed_units.specs.Quantity.{number, is_digit}
use Rattle.fixed_units.specs.Reading.{IsLeading}
use Rattle.fixed_units.proofs.Numbers.{number-nil, number-push, number-below, pow-pos}

pub leads-whole : (n : ℕ) → IsLeading n (record { value = n; dropped = 0 })
leads-whole n = record { floor = sym (div-one n); enough = λ h. absurd (omega arith) }

pub leads-next : (n digit value dropped : ℕ) → value < ENOUGH → IsLeading n (record { value = value; dropped = dropped })
    → IsLeading (10 * n + digit) (record { value = 10 * value + digit; dropped = 0 })
leads-next n digit value zero small h =
    let e : value ≡ n = h.floor ∙ div-one n in
    rw e (leads-whole (10 * n + digit))
leads-next n digit value (suc dropped) small h =
    let large : ENOUGH ≤ value = h.enough (omega arith) in absurd (omega arith)

pub leads-drop : (n digit value dropped : ℕ) → digit ≤ 9 → ENOUGH ≤ value → IsLeading n (record { value = value; dropped = dropped })
    → IsLeading (10 * n + digit) (record { value = value; dropped = dropped + 1 })
leads-drop n digit value dropped low large h =
    let one : dropped + 1 ≡ suc dropped = omega arith in
    let ten : (10 * n + digit) / 10 ≡ n = omega arith in
    let floor : (10 * n + digit) / 10 ^ (dropped + 1) ≡ n / 10 ^ dropped
    = rw (one, pow-succ' 10 dropped) (sym (div-div-eq-div-mul (10 * n + digit) 10 (10 ^ dropped)) ∙ ap (λ (t : ℕ). t / 10 ^ dropped) ten) in
    record { floor = h.floor ∙ sym floor; enough = λ _. large }

pub leads-no_digits : (n : ℕ) (leading : Leading) → IsLeading n leading → IsLeading (n * 1 + number []) leading
leads-no_digits n leading h = let e : n * 1 + number [] ≡ n = rw number-nil (omega arith) in rw e h

-- one more digit of a text
pub leads-more : (n place : ℕ) (text : List ℕ) (leading : Leading) → place < length text
    → IsLeading (10 * (n * 10 ^ place + number (take place text)) + (get_or text place 0 - 48)) leading
    → IsLeading (n * 10 ^ (place + 1) + number (take (place + 1) text)) leading
leads-more n place text leading h k =
    let one : place + 1 ≡ suc place = omega arith in
    let e : n * 10 ^ (place + 1) + number (take (place + 1) text) ≡ 10 * (n * 10 ^ place + number (take place text)) + (get_or text place 0 - 48)
    = rw (take_more text place 0 h, number-push (take place text) (get_or text place 0), one, pow-succ' 10 place) (grind (arith, mul_assoc n 10 (10 ^ place), mul_comm n 10, mul_assoc 10 n (10 ^ place))) in
    rw e k

-- digits that follow none
pub leads-alone : (ds : List ℕ) (leading : Leading) → IsLeading (0 * 10 ^ length ds + number ds) leading → IsLeading (number ds) leading
leads-alone ds leading h = let e : 0 * 10 ^ length ds + number ds ≡ number ds = omega arith in rw e at h

-- a number with dropped digits
pub leads-many : (n value dropped : ℕ) → IsLeading n (record { value = value; dropped = dropped }) → 0 < dropped → 10 * ENOUGH ≤ n
leads-many n value zero h k = absurd (omega arith)
leads-many n value (suc dropped) h k =
    let large : ENOUGH ≤ value = h.enough k in
    let below : value * 10 ^ suc dropped ≤ n = rw h.floor (div-mul-le_self n (10 ^ suc dropped)) in
    let some : 0 < 10 ^ dropped = pow-pos dropped in
    let ten : 10 ≤ 10 ^ suc dropped = rw (pow-succ' 10 dropped) (omega arith) in
    let more : value * 10 ≤ value * 10 ^ suc dropped = mul-le-mul_left value ten in
    omega arith

-- a number is 0 where its leading digits write 0
pub leads-zero : (n value dropped : ℕ) → IsLeading n (record { value = value; dropped = dropped }) → value ≡ 0 → n ≡ 0
leads-zero n value zero h k = sym (div-one n) ∙ sym h.floor ∙ k
leads-zero n value (suc dropped) h k = let large : ENOUGH ≤ value = h.enough (omega arith) in absurd (omega arith)

pub leads-some : (n value dropped : ℕ) → IsLeading n (record { value = value; dropped = dropped }) → 0 < value → 0 < n
leads-some zero value dropped h k = let none : 0 / 10 ^ dropped ≡ 0 = zero-div (10 ^ dropped) in let e : value ≡ 0 = h.floor ∙ none in absurd (omega arith)
leads-some (suc n) value dropped h k = omega arith

-- three digits are never dropped
pub leads-few : (ds : List ℕ) (value dropped : ℕ) → list_all is_digit ds ≡ true → length ds ≤ 3
    → IsLeading (number ds) (record { value = value; dropped = dropped }) → (value ≡ number ds) × (number ds < 1000)
leads-few ds value dropped h few k =
    let below : number ds < 10 ^ length ds = number-below ds h in
    let most : 10 ^ length ds ≤ 10 ^ 3 = pow-le-pow_right (lit< tt) few in
    let small : number ds < 1000 = omega arith in
    (few-value (number ds) value dropped small k, small)
  where
    few-value : (n value dropped : ℕ) → n < 1000 → IsLeading n (record { value = value; dropped = dropped }) → value ≡ n
    few-value n value zero small k = k.floor ∙ div-one n
    few-value n value (suc dropped) small k = let many : 10 * ENOUGH ≤ n = leads-many n value (suc dropped) k (omega arith) in absurd (omega arith)

pub leads-is_zero : (n value dropped : ℕ) → IsLeading n (record { value = value; dropped = dropped }) → (value == 0) ≡ (n == 0)
leads-is_zero n value dropped h =
    let none : value ≡ 0 → n ≡ 0 = λ e. leads-zero n value dropped h e in
    let some : 0 < value → 0 < n = λ e. leads-some n value dropped h e in
    grind arith

pub ruleset leads = (leads-whole, leads-next, leads-drop)
