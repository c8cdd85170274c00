-- What the reader of a number has found when it stands at a place of the text.
use Rattle.std.specs.Prelude.{◌≡◌, ℕ, ◌/◌, ◌^◌, ◌≤◌, ◌<◌, ◌⊎◌, Bool, true, false, List, [], ◌∷◌}
use Rattle.std.specs.Prelude.{◌++◌, if◌then◌else◌, ◌&&◌, Option, Some, None}
use Rattle.std.specs.List.{list_all}
use Rattle.fixed_units.specs.declared.exponent.Tens.{Tens}
use Rattle.fixed_units.specs.declared.leading.Leading.{Leading}
use Rattle.fixed_units.specs.declared.leading.TheConstants.{ENOUGH}
use Rattle.fixed_units.specs.Quantity.{is_digit, is_point, is_exponent_mark, is_exponent, are_zeros}
use Rattle.fixed_units.specs.Quantity.{tens_up, tens_down}

-- the leading digits of a number: all of them, or enough and the count of the others
pub record IsLeading (whole : ℕ) (leading : Leading) : Type 0 where
  pub floor : leading.value ≡ whole / 10 ^ leading.dropped
  pub enough : 0 < leading.dropped → ENOUGH ≤ leading.value

-- the first byte passes
abbrev pub begins_with : (ℕ → Bool) → List ℕ → Bool
begins_with p [] = false
begins_with p (first ∷ _) = p first

-- a text is digits, then perhaps a point and digits, and then a rest that goes on with neither
pub record IsSplit (text whole fraction rest : List ℕ) : Type 0 where
  pub whole_digits : list_all is_digit whole ≡ true
  pub fraction_digits : list_all is_digit fraction ≡ true
  pub no_digit : begins_with is_digit rest ≡ false
  pub joined :
      (text ≡ whole ++ (46 ∷ (fraction ++ rest)))
      ⊎ ((text ≡ whole ++ rest) × (fraction ≡ []) × (begins_with is_point rest ≡ false))

-- the power of ten that the end of a quantity gives it, where it is an end: nothing, or an
-- exponent
abbrev pub end_of : List ℕ → Option Tens
end_of [] = Some (record { up = 0; down = 0 })
end_of (mark ∷ text) =
    if is_exponent_mark mark
    then (if is_exponent text
    then Some (record { up = tens_up text; down = tens_down text })
    else None)
    else None

-- what may stand after an identifier's digits: nothing, or a point and zeros
abbrev pub is_identifier_end : List ℕ → Bool
is_identifier_end [] = true
is_identifier_end (first ∷ rest) = is_point first && are_zeros rest
