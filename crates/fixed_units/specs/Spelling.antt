-- The grammar of a quantity: the pieces that its text is made of, and what they are worth.
use Rattle.std.specs.Prelude.{◌≡◌, ℕ, ◌+◌, ◌*◌, ◌^◌, ◌≤◌, ◌<◌, Bool, true, false, List, [], ◌∷◌}
use Rattle.std.specs.Prelude.{◌++◌, length, if◌then◌else◌, Result}
use Rattle.std.specs.List.{list_all}
use Rattle.fixed_units.specs.declared.fault.NumberFault.{NumberFault}
use Rattle.fixed_units.specs.declared.quantity.TheConstants.{MOST_BYTES}
use Rattle.fixed_units.specs.Quantity.{is_digit, is_exponent_mark, are_few_digits, number}
use Rattle.fixed_units.specs.Quantity.{thousandths, IsQuantity, milli_of}

-- a sign, if there is one
pub data Sign : Type 0 where
  no_sign : Sign
  plus : Sign
  minus : Sign

-- the bytes of a sign
abbrev pub sign_text : Sign → List ℕ
sign_text no_sign = []
sign_text plus = 43 ∷ []
sign_text minus = 45 ∷ []

-- whether a sign is a minus
abbrev pub is_minus : Sign → Bool
is_minus no_sign = false
is_minus plus = false
is_minus minus = true

-- an exponent, if there is one: an e or E, a sign and digits
pub data Exponent : Type 0 where
  no_exponent : Exponent
  power : ℕ → Sign → List ℕ → Exponent

-- the bytes of an exponent
abbrev pub exponent_text : Exponent → List ℕ
exponent_text no_exponent = []
exponent_text (power mark sign digits) = mark ∷ (sign_text sign ++ digits)

-- the power of ten that an exponent multiplies by
abbrev pub power_up : Exponent → ℕ
power_up no_exponent = 0
power_up (power _ sign digits) = if is_minus sign then 0 else number digits

-- the power of ten that an exponent divides by
abbrev pub power_down : Exponent → ℕ
power_down no_exponent = 0
power_down (power _ sign digits) = if is_minus sign then number digits else 0

-- the pieces of a quantity's text, in their order
pub record Spelling : Type 0 where
  pub sign : Sign
  pub whole : List ℕ
  pub point : Bool
  pub fraction : List ℕ
  pub last : Exponent

-- the bytes of a spelling
abbrev pub text_of : Spelling → List ℕ
text_of s =
    sign_text s.sign
    ++ (s.whole ++ ((if s.point then 46 ∷ s.fraction else []) ++ exponent_text s.last))

-- an exponent has its mark and one to three digits
abbrev pub IsExponent : Exponent → Type 0
IsExponent no_exponent = Unit {0}
IsExponent (power mark _ digits) = (is_exponent_mark mark ≡ true) × (are_few_digits digits ≡ true)

-- digits stand around the point, one at least, and none after a point that is not there
pub record IsSpelling (s : Spelling) : Type 0 where
  pub whole_digits : list_all is_digit s.whole ≡ true
  pub fraction_digits : list_all is_digit s.fraction ≡ true
  pub some_digit : 0 < length (s.whole ++ s.fraction)
  pub pointed : s.point ≡ false → s.fraction ≡ []
  pub in_order : IsExponent s.last

-- the floor of a thousand times the exact value of a spelling: the whole number that the digits
-- write, over a ten for each digit after the point, and by the power of ten of the exponent
abbrev pub value_of : Spelling → Result ℕ NumberFault
value_of s =
    thousandths
    (is_minus s.sign)
    (number (s.whole ++ s.fraction) * 10 ^ power_up s.last)
    (10 ^ (length s.fraction + power_down s.last))

-- each spelling that is not too long is read by its exact value
abbrev pub SpellingsAreRead : Type 0
SpellingsAreRead =
    (s : Spelling) → IsSpelling s → length (text_of s) ≤ MOST_BYTES
    → milli_of (text_of s) ≡ value_of s

-- each quantity has a spelling
abbrev pub QuantitiesAreSpelled : Type 0
QuantitiesAreSpelled =
    (text : List ℕ) → IsQuantity text → (s : Spelling) × IsSpelling s × (text_of s ≡ text)
