-- Numbers as the fields of a table spell them.
use Rattle.std.specs.Prelude.{ℕ, ◌+◌, ◌-◌, ◌*◌, ◌/◌, ◌^◌, ◌==◌, ◌&&◌, ◌||◌, not, nat_le, Bool}
use Rattle.std.specs.Prelude.{false, IsTrue, List, [], ◌∷◌, ◌++◌, length, if◌then◌else◌, Result, Ok}
use Rattle.std.specs.Prelude.{Err, is_some, position}
use Rattle.std.specs.List.{list_all, before_first, after_first}
use Rattle.fixed_units.specs.declared.fault.NumberFault.{NumberFault}
use Rattle.fixed_units.specs.declared.fault.NumberFault.TheVariants.{NotNumber, OutOfRange}
use Rattle.fixed_units.specs.declared.exponent.TheConstants.{MOST_EXPONENT_DIGITS}
use Rattle.fixed_units.specs.declared.identifier.TheConstants.{GREATEST_IDENTIFIER}
use Rattle.fixed_units.specs.declared.quantity.TheConstants.{MOST_BYTES, MOST_THOUSANDTHS}

-- an ASCII digit
abbrev pub is_digit : ℕ → Bool
is_digit byte = nat_le 48 byte && nat_le byte 57

-- one digit or more
abbrev pub are_digits : List ℕ → Bool
are_digits text = not (length text == 0) && list_all is_digit text

-- the whole number that digits write
unfoldable pub number : List ℕ → ℕ
number [] = 0
number (digit ∷ digits) = (digit - 48) * 10 ^ length digits + number digits

-- a value of at most a limit
abbrev pub within : ℕ → ℕ → Result ℕ NumberFault
within limit value = if nat_le value limit then Ok value else Err OutOfRange

-- ---- signs and points

-- a text begins with a minus
abbrev pub has_minus : List ℕ → Bool
has_minus [] = false
has_minus (first ∷ _) = first == 45

-- a text without the + or - at its front
abbrev pub unsigned : List ℕ → List ℕ
unsigned [] = []
unsigned (first ∷ rest) = if first == 43 || first == 45 then rest else (first ∷ rest)

-- the byte of a point
abbrev pub is_point : ℕ → Bool
is_point byte = byte == 46

-- a text has a point
abbrev pub has_point : List ℕ → Bool
has_point text = is_some (position is_point text)

-- what stands before the first point of a text, or all of it where it has none
abbrev pub whole_part : List ℕ → List ℕ
whole_part text = before_first is_point text

-- what stands after the first point of a text, or nothing where it has none
abbrev pub fraction_part : List ℕ → List ℕ
fraction_part text = after_first is_point text

-- ---- identifiers

-- one zero or more
abbrev pub are_zeros : List ℕ → Bool
are_zeros text = not (length text == 0) && list_all (λ byte. byte == 48) text

-- one digit or more, and then perhaps a point and one zero or more
abbrev pub is_identifier : List ℕ → Bool
is_identifier text =
    are_digits (whole_part text) && (not (has_point text) || are_zeros (fraction_part text))

-- a minus before an identifier
abbrev pub is_minus_identifier : List ℕ → Bool
is_minus_identifier text = has_minus text && is_identifier (unsigned text)

-- an identifier's value, or why it has none
abbrev pub whole_of : List ℕ → Result ℕ NumberFault
whole_of text =
    if is_identifier text
    then within GREATEST_IDENTIFIER (number (whole_part text))
    else (if is_minus_identifier text then Err OutOfRange else Err NotNumber)

-- ---- quantities, without their sign

-- e or E
abbrev pub is_exponent_mark : ℕ → Bool
is_exponent_mark byte = byte == 101 || byte == 69

-- what stands before the first e or E, or all of the text where it has none
abbrev pub mantissa : List ℕ → List ℕ
mantissa text = before_first is_exponent_mark text

-- a text has an e or E
abbrev pub has_exponent : List ℕ → Bool
has_exponent text = is_some (position is_exponent_mark text)

-- what stands after the first e or E, or nothing where the text has none
abbrev pub exponent : List ℕ → List ℕ
exponent text = after_first is_exponent_mark text

-- the digits on both sides of the point
abbrev pub digits_of : List ℕ → List ℕ
digits_of text = whole_part (mantissa text) ++ fraction_part (mantissa text)

-- one to three digits
abbrev pub are_few_digits : List ℕ → Bool
are_few_digits text = are_digits text && nat_le (length text) MOST_EXPONENT_DIGITS

-- perhaps a sign, and then one to three digits
abbrev pub is_exponent : List ℕ → Bool
is_exponent text = are_few_digits (unsigned text)

-- one digit or more around at most one point, and then perhaps an exponent
abbrev pub is_unsigned_quantity : List ℕ → Bool
is_unsigned_quantity text =
    are_digits (digits_of text) && (not (has_exponent text) || is_exponent (exponent text))

-- the power of ten that an exponent multiplies by
abbrev pub tens_up : List ℕ → ℕ
tens_up text = if has_minus text then 0 else number (unsigned text)

-- the power of ten that an exponent divides by
abbrev pub tens_down : List ℕ → ℕ
tens_down text = if has_minus text then number (unsigned text) else 0

-- The exact value is `numerator text / denominator text`: the whole number that the digits write,
-- over a ten for each digit after the point, and by the power of ten of the exponent.
abbrev pub numerator : List ℕ → ℕ
numerator text = number (digits_of text) * 10 ^ tens_up (exponent text)

abbrev pub denominator : List ℕ → ℕ
denominator text = 10 ^ (length (fraction_part (mantissa text)) + tens_down (exponent text))

-- the floor of a thousand times an exact value, where the value is not below 0 and the floor in
-- range
abbrev pub thousandths : Bool → ℕ → ℕ → Result ℕ NumberFault
thousandths minus numerator denominator =
    if minus && not (numerator == 0)
    then Err OutOfRange
    else within MOST_THOUSANDTHS (1000 * numerator / denominator)

-- ---- quantities

-- perhaps a sign, and then a quantity without one, in at most MOST_BYTES bytes
abbrev pub is_quantity : List ℕ → Bool
is_quantity text = nat_le (length text) MOST_BYTES && is_unsigned_quantity (unsigned text)

-- the text of a quantity
abbrev pub IsQuantity : List ℕ → Type 0
IsQuantity text = IsTrue (is_quantity text)

-- a quantity's thousandths, or why it has none
abbrev pub milli_of : List ℕ → Result ℕ NumberFault
milli_of text =
    if is_quantity text
    then thousandths (has_minus text) (numerator (unsigned text)) (denominator (unsigned text))
    else Err NotNumber
