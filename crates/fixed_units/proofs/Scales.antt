-- Numbers times and over powers of ten.
use Rattle.std.proofs.Common.{◌≡◌, ℕ, zero, suc, lit<, ◌+◌, ◌*◌, ◌/◌, ◌^◌, ◌≤◌, ◌<◌, refl, Bool, true, false, arith, ap, ◌∙◌, sym, Err, ◌⊎◌, inl, inr}
use Rattle.std.specs.Prelude.{not, ◌==◌, if◌then◌else◌}
use Rattle.std.proofs.Math.Nat.{div-div-eq-div-mul, div-one, mul-div-mul_left, mul_assoc, mul_comm, pow-le-pow_right, div-mul-le_self, mul-le-mul_right, mul-le-mul_left, div-eq_of_lt, mul-div_cancel}
use Rattle.std.proofs.lemmas.Nat.{pow-add, le-div}
use Rattle.fixed_units.specs.declared.leading.TheConstants.{ENOUGH}
use Rattle.fixed_units.specs.declared.quantity.TheConstants.{MOST_THOUSANDTHS}
use Rattle.fixed_units.specs.declared.fault.NumberFault.TheVariants.{NotNumber, OutOfRange}
use Rattle.fixed_units.specs.Quantity.{within, thousandths}
use Rattle.fixed_units.specs.Reading.{IsLeading}
use Rattle.fixed_units.proofs.Numbers.{pow-pos}

pub within-above : (value : ℕ) → MOST_THOUSANDTHS < value → within MOST_THOUSANDTHS value ≡ Err OutOfRange
within-above value h = grind arith

pub raised-far : (value tens : ℕ) → 0 < value → 12 < tens → within MOST_THOUSANDTHS (value * 10 ^ tens) ≡ Err OutOfRange
raised-far value tens h k =
    let far : 13 ≤ tens = omega arith in
    let more : 10 ^ 13 ≤ 10 ^ tens = pow-le-pow_right (lit< tt) far in
    let one : 1 ≤ value = omega arith in
    let times : 1 * 10 ^ tens ≤ value * 10 ^ tens = mul-le-mul_right (10 ^ tens) one in
    within-above (value * 10 ^ tens) (omega arith)

pub power-fits : (tens : ℕ) → tens ≤ 12 → 10 ^ tens ≤ 10 ^ 12
power-fits tens h = pow-le-pow_right (lit< tt) h

pub lowered-far : (value tens : ℕ) → value < 2 ^ 64 → 19 < tens → value / 10 ^ tens ≡ 0
lowered-far value tens h k =
    let far : 20 ≤ tens = omega arith in
    let more : 10 ^ 20 ≤ 10 ^ tens = pow-le-pow_right (lit< tt) far in
    div-eq_of_lt (omega arith)

pub power-fits-low : (tens : ℕ) → tens ≤ 19 → 10 ^ tens ≤ 10 ^ 19
power-fits-low tens h = pow-le-pow_right (lit< tt) h

-- a thousand times a power of ten
pub thousand-times : (n up : ℕ) → 1000 * (n * 10 ^ up) ≡ n * 10 ^ (3 + up)
thousand-times n up = rw (pow-add 10 3 up) (grind (arith, mul_assoc n 1000 (10 ^ up), mul_comm n 1000, mul_assoc 1000 n (10 ^ up)))

pub scaled-down : (n value dropped up down k : ℕ) → value ≡ n / 10 ^ dropped → down ≡ 3 + up + dropped + k
    → value / 10 ^ k ≡ 1000 * (n * 10 ^ up) / 10 ^ down
scaled-down n value dropped up down k h e =
    let a : ℕ = 3 + up in
    let split : down ≡ (3 + up) + (dropped + k) = omega arith in
    let power : 10 ^ down ≡ 10 ^ (3 + up) * (10 ^ dropped * 10 ^ k)
    = ap (λ (t : ℕ). 10 ^ t) split ∙ pow-add 10 (3 + up) (dropped + k) ∙ ap (λ (t : ℕ). 10 ^ (3 + up) * t) (pow-add 10 dropped k) in
    let over : 10 ^ (3 + up) * n / (10 ^ (3 + up) * (10 ^ dropped * 10 ^ k)) ≡ n / (10 ^ dropped * 10 ^ k)
    = mul-div-mul_left n (10 ^ dropped * 10 ^ k) (pow-pos (3 + up)) in
    sym (rw (power, thousand-times n up, mul_comm n (10 ^ (3 + up)), over, h) (sym (div-div-eq-div-mul n (10 ^ dropped) (10 ^ k))))

scaled-up-whole : (n up down k : ℕ) → 3 + up ≡ down + k → 1000 * (n * 10 ^ up) / 10 ^ down ≡ n * 10 ^ k
scaled-up-whole n up down k e =
    let power : 10 ^ (3 + up) ≡ 10 ^ k * 10 ^ down
    = ap (λ (t : ℕ). 10 ^ t) e ∙ pow-add 10 down k ∙ mul_comm (10 ^ down) (10 ^ k) in
    rw (thousand-times n up, power, sym (mul_assoc n (10 ^ k) (10 ^ down))) (mul-div_cancel (n * 10 ^ k) (pow-pos down))

scaled-up-far : (n value dropped up down k : ℕ) → value ≡ n / 10 ^ dropped → 3 + up + dropped ≡ down + k
    → value * 10 ^ k ≤ 1000 * (n * 10 ^ up) / 10 ^ down
scaled-up-far n value dropped up down k h e =
    let below : value * 10 ^ dropped ≤ n = rw h (div-mul-le_self n (10 ^ dropped)) in
    let times : value * 10 ^ dropped * 10 ^ (3 + up) ≤ n * 10 ^ (3 + up) = mul-le-mul_right (10 ^ (3 + up)) below in
    let turned : dropped + (3 + up) ≡ k + down = omega arith in
    let power : 10 ^ dropped * 10 ^ (3 + up) ≡ 10 ^ k * 10 ^ down
    = sym (pow-add 10 dropped (3 + up)) ∙ ap (λ (t : ℕ). 10 ^ t) turned ∙ pow-add 10 k down in
    let product : value * 10 ^ dropped * 10 ^ (3 + up) ≡ value * 10 ^ k * 10 ^ down
    = mul_assoc value (10 ^ dropped) (10 ^ (3 + up)) ∙ ap (λ (t : ℕ). value * t) power ∙ sym (mul_assoc value (10 ^ k) (10 ^ down)) in
    rw (thousand-times n up) (le-div (value * 10 ^ k) (n * 10 ^ (3 + up)) (10 ^ down) (pow-pos down) (omega arith))

pub scaled-up : (n value dropped up down k : ℕ) → IsLeading n (record { value = value; dropped = dropped }) → 3 + up + dropped ≡ down + k
    → within MOST_THOUSANDTHS (value * 10 ^ k) ≡ within MOST_THOUSANDTHS (1000 * (n * 10 ^ up) / 10 ^ down)
scaled-up n value zero up down k h e =
    let all : value ≡ n = h.floor ∙ div-one n in
    let same : 1000 * (n * 10 ^ up) / 10 ^ down ≡ n * 10 ^ k = scaled-up-whole n up down k (omega arith) in
    rw (same, all) refl
scaled-up n value (suc dropped) up down k h e =
    let large : ENOUGH ≤ value = h.enough (omega arith) in
    let some : 0 < 10 ^ k = pow-pos k in
    let one : 1 ≤ 10 ^ k = omega arith in
    let first : value * 1 ≤ value * 10 ^ k = mul-le-mul_left value one in
    let second : value * 10 ^ k ≤ 1000 * (n * 10 ^ up) / 10 ^ down = scaled-up-far n value (suc dropped) up down k h.floor e in
    within-above (value * 10 ^ k) (omega arith) ∙ sym (within-above (1000 * (n * 10 ^ up) / 10 ^ down) (omega arith))

-- a quantity below 0
pub value-below : (q minus : Bool) (numerator denominator n up len : ℕ) → q ≡ not (len == 0) → 0 < len → numerator ≡ n * 10 ^ up
    → minus ≡ true → (n == 0) ≡ false → Err OutOfRange ≡ (if q then thousandths minus numerator denominator else Err NotNumber)
value-below q minus numerator denominator n up len e some value m h =
    let power : 0 < 10 ^ up = pow-pos up in
    let one : 1 ≤ n = grind arith in
    let more : 1 * 10 ^ up ≤ n * 10 ^ up = mul-le-mul_right (10 ^ up) one in
    let above : 0 < numerator = omega arith in
    rw (e, m) (grind arith)

-- a quantity that is not below 0
pub value-above : (q minus : Bool) (numerator denominator n up down len : ℕ) → q ≡ not (len == 0) → 0 < len → numerator ≡ n * 10 ^ up → denominator ≡ 10 ^ down
    → (minus ≡ false) ⊎ ((n == 0) ≡ true)
    → within MOST_THOUSANDTHS (1000 * (n * 10 ^ up) / 10 ^ down) ≡ (if q then thousandths minus numerator denominator else Err NotNumber)
value-above q minus numerator denominator n up down len e some value over (inl m) = rw (e, m, value, over) (grind arith)
value-above q minus numerator denominator n up down len e some value over (inr m) =
    let nothing : n ≡ 0 = grind arith in
    let none : n * 10 ^ up ≡ 0 = rw nothing (omega arith) in
    let zero-numerator : numerator ≡ 0 = value ∙ none in
    rw (e, none, zero-numerator, over) (grind arith)

pub ruleset scales = (pow-pos, raised-far, power-fits, lowered-far, power-fits-low, scaled-down, scaled-up)
