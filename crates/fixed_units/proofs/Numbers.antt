-- The number that digits write.
use Rattle.std.proofs.Common.{◌≡◌, ℕ, zero, suc, lit<, ◌+◌, ◌-◌, ◌*◌, ◌^◌, ◌++◌, ◌≤◌, ◌<◌, List, [], ◌∷◌, length, refl, Bool, true, false, arith, ◌∙◌, length-append}
use Rattle.std.specs.Prelude.{◌&&◌}
use Rattle.std.specs.List.{list_all}
use Rattle.std.proofs.Math.Nat.{add-mul, mul_assoc, pow-succ', mul-le-mul_right}
use Rattle.std.proofs.lemmas.Nat.{pow-add}
use Rattle.fixed_units.specs.Quantity.{number, is_digit}

pub number-nil : number [] ≡ 0
unfolding number
number-nil = refl

pub pow-pos : (n : ℕ) → 0 < 10 ^ n
pow-pos zero = lit< tt
pow-pos (suc n) = let h : 0 < 10 ^ n = pow-pos n in rw (pow-succ' 10 n) (omega arith)

append-step : (k p q m n : ℕ) → k * (p * q) + (m * q + n) ≡ (k * p + m) * q + n
append-step k p q m n = grind (arith, add-mul (k * p) m q, mul_assoc k p q)

-- the digits of two texts in a row
pub number-append : (xs ys : List ℕ) → number (xs ++ ys) ≡ number xs * 10 ^ length ys + number ys
unfolding number
number-append [] ys = omega arith
number-append (x ∷ xs) ys =
    let rest : number (xs ++ ys) ≡ number xs * 10 ^ length ys + number ys = number-append xs ys in
    rw (length-append xs ys, pow-add 10 (length xs) (length ys), rest) (append-step (x - 48) (10 ^ length xs) (10 ^ length ys) (number xs) (number ys))

-- one more digit
pub number-push : (xs : List ℕ) (x : ℕ) → number (xs ++ (x ∷ [])) ≡ 10 * number xs + (x - 48)
unfolding number
number-push xs x =
    let joined : number (xs ++ (x ∷ [])) ≡ number xs * 10 ^ 1 + ((x - 48) * 10 ^ 0 + 0) = number-append xs (x ∷ []) in
    joined ∙ omega arith

pub digit-below : (b : ℕ) → is_digit b ≡ true → b - 48 ≤ 9
digit-below b h = grind arith

pub and-first : (a b : Bool) → (a && b) ≡ true → a ≡ true
and-first true b h = refl
and-first false b h = h

pub and-second : (a b : Bool) → (a && b) ≡ true → b ≡ true
and-second true b h = h
and-second false b h = absurd cc

-- n digits write less than 10 ^ n
pub number-below : (ds : List ℕ) → list_all is_digit ds ≡ true → number ds < 10 ^ length ds
unfolding number
number-below [] h = lit< tt
number-below (d ∷ ds) h =
    let small : d - 48 ≤ 9 = digit-below d (and-first (is_digit d) (list_all is_digit ds) h) in
    let rest : number ds < 10 ^ length ds = number-below ds (and-second (is_digit d) (list_all is_digit ds) h) in
    let m : (d - 48) * 10 ^ length ds ≤ 9 * 10 ^ length ds = mul-le-mul_right (10 ^ length ds) small in
    rw (pow-succ' 10 (length ds)) (omega arith)
