-- The zone field of a node table.
use Rattle.std.specs.Prelude.{ℕ, ◌==◌, ◌&&◌, ◌||◌, Bool, false, List, length, if◌then◌else◌, Option}
use Rattle.std.specs.Prelude.{None, Some, Result, Ok, Err}
use Rattle.fixed_units.specs.declared.fault.NumberFault.{NumberFault}
use Rattle.fixed_units.specs.Quantity.{has_minus, unsigned, whole_of}

-- an identifier of value 1
abbrev pub is_one : Result ℕ NumberFault → Bool
is_one (Ok value) = value == 1
is_one (Err _) = false

-- a minus before an identifier of value 1
abbrev pub is_minus_one : List ℕ → Bool
is_minus_one text = has_minus text && is_one (whole_of (unsigned text))

-- an identifier of value 0 stands for no zone
abbrev pub zone_numbered : Result ℕ NumberFault → Result (Option ℕ) NumberFault
zone_numbered (Ok value) = Ok (if value == 0 then None else Some value)
zone_numbered (Err fault) = Err fault

-- a zone field's zone: none where the field is empty or a minus before an identifier of value 1,
-- and else its identifier's
abbrev pub zone_of : List ℕ → Result (Option ℕ) NumberFault
zone_of text =
    if length text == 0 || is_minus_one text then Ok None else zone_numbered (whole_of text)
