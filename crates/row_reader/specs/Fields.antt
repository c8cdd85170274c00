-- The checks of one field, and of the columns of a header.
use Rattle.std.specs.Prelude.{ℕ, ◌==◌, ◌&&◌, nat_le, Bool, List, [], ◌∷◌, length, Result, Ok, Err}
use Rattle.std.specs.Prelude.{if◌then◌else◌, Option, None, Some, is_none, ⊤}
use Rattle.fixed_units.specs.Quantity.{whole_of, milli_of}
use Rattle.fixed_units.specs.declared.fault.NumberFault.{NumberFault}
use Rattle.fixed_units.specs.declared.fault.NumberFault.TheVariants as number_fault
use Rattle.row_reader.specs.Records.{Record}
use Rattle.row_reader.specs.Columns.{place_of}
use Rattle.row_reader.specs.declared.faults.Code.{Code}
use Rattle.row_reader.specs.declared.faults.Code.TheVariants.{E1, E3, E4, E5}
use Rattle.row_reader.specs.declared.faults.Column.{Column}
use Rattle.row_reader.specs.declared.faults.Complaint.{Complaint}

-- go on with a value, or stay with the fault: checks in a chain fail at the first one that fails
abbrev pub then_with : {A B C : Type 0} → Result A C → (A → Result B C) → Result B C
then_with (Err fault) next = Err fault
then_with (Ok x) next = next x

-- a complaint with a code about a column
abbrev pub complain : Code → Column → Complaint
complain why what = record { code = why; column = what }

-- a check that must not hold
abbrev pub unless : Bool → Code → Column → Result ⊤ Complaint
unless fails why what = if fails then Err (complain why what) else Ok tt

-- a number that lies within bounds, or E5
abbrev pub within : Column → ℕ → ℕ → ℕ → Result ℕ Complaint
within what low high n = if nat_le low n && nat_le n high then Ok n else Err (complain E5 what)

-- what a text that is no number of its kind complains of: its form, or its range
abbrev pub not_a_number : Column → NumberFault → Complaint
not_a_number what number_fault.NotNumber = complain E4 what
not_a_number what number_fault.OutOfRange = complain E5 what

-- a number that was read, or the complaint
abbrev pub numbered : Column → Result ℕ NumberFault → Result ℕ Complaint
numbered what (Ok n) = Ok n
numbered what (Err fault) = Err (not_a_number what fault)

-- a required identifier
unfoldable pub identifier : Column → List ℕ → Result ℕ Complaint
identifier what text =
    if length text == 0 then Err (complain E3 what) else numbered what (whole_of text)

-- a required quantity, in thousandths
unfoldable pub quantity : Column → List ℕ → Result ℕ Complaint
quantity what text =
    if length text == 0 then Err (complain E3 what) else numbered what (milli_of text)

-- an optional quantity, in thousandths, with another number in its place where the field is empty
unfoldable pub quantity_or : ℕ → Column → List ℕ → Result ℕ Complaint
quantity_or otherwise what text =
    if length text == 0 then Ok otherwise else numbered what (milli_of text)

-- a number that was read is there
abbrev pub option_of : Result ℕ Complaint → Result (Option ℕ) Complaint
option_of (Ok n) = Ok (Some n)
option_of (Err c) = Err c

-- an optional quantity, in thousandths, with nothing in its place where the field is empty
unfoldable pub optional_quantity : Column → List ℕ → Result (Option ℕ) Complaint
optional_quantity what text =
    if length text == 0 then Ok None else option_of (numbered what (milli_of text))

-- the first of some columns that a header lacks is E1
abbrev pub has_columns : Record → List Column → Result ⊤ Complaint
has_columns header [] = Ok tt
has_columns header (what ∷ rest) =
    then_with (unless (is_none (place_of header what)) E1 what) (λ _. has_columns header rest)
