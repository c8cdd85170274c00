-- The rows of a start table, as its text tells them.
use Rattle.std.specs.Prelude.{ℕ, Bool, true, false, ◌==◌, List, [], ◌∷◌, length, map}
use Rattle.std.specs.Prelude.{is_some, if◌then◌else◌, Result, Ok, Err}
use Rattle.std.specs.List.{list_any, slice_split}
use Rattle.fixed_units.specs.Quantity.{whole_of}
use Rattle.fixed_units.specs.declared.fault.NumberFault.{NumberFault}
use Rattle.fixed_units.specs.declared.fault.NumberFault.TheVariants.{NotNumber, OutOfRange}
use Rattle.desk_io.specs.declared.desk.Table.TheVariants as table
use Rattle.row_reader.specs.Records.{Record}
use Rattle.row_reader.specs.Columns.{text}
use Rattle.row_reader.specs.Fields.{identifier, not_a_number, then_with, unless}
use Rattle.row_reader.specs.FirstFault.{Checks, verdict}
use Rattle.row_reader.specs.declared.faults.Code.TheVariants as code
use Rattle.row_reader.specs.declared.faults.Column.{Column}
use Rattle.row_reader.specs.declared.faults.Column.TheVariants as column
use Rattle.row_reader.specs.declared.faults.Complaint.{Complaint}
use Rattle.row_reader.specs.declared.faults.TableFault.{TableFault}
use Rattle.net_core.specs.Ids.{place_of}
use Rattle.start_table.specs.Starts.{agents_of}
use Rattle.start_table.specs.declared.rows.StartRow.{StartRow}
use Rattle.start_table.specs.declared.rows.TheConstants.{MOST_START_ROWS}

-- the columns that a start table must have
abbrev pub start_columns : List Column
start_columns = column.AgentId ∷ column.OZoneId ∷ column.DZoneId ∷ column.LinkIds ∷ []

-- ---- identifiers joined by semicolons

-- the byte is `;` (59)
abbrev pub is_semicolon : ℕ → Bool
is_semicolon byte = byte == 59

-- the pieces of a text between semicolons, of which there is always one
abbrev pub pieces_of : List ℕ → List (List ℕ)
pieces_of text = slice_split is_semicolon text

-- a number that was read, or 0 where there is none
abbrev pub value_in : Result ℕ NumberFault → ℕ
value_in (Ok n) = n
value_in (Err fault) = 0

-- what was read isn't of the form of a number
abbrev pub is_formless : Result ℕ NumberFault → Bool
is_formless (Ok n) = false
is_formless (Err NotNumber) = true
is_formless (Err OutOfRange) = false

-- what was read is a number out of range
abbrev pub is_beyond : Result ℕ NumberFault → Bool
is_beyond (Ok n) = false
is_beyond (Err NotNumber) = false
is_beyond (Err OutOfRange) = true

-- the identifiers that pieces write, or why they write none: some piece isn't of the form, or all
-- are and some is out of range
abbrev pub identifiers_of : List (List ℕ) → Result (List ℕ) NumberFault
identifiers_of pieces =
    if list_any (λ piece. is_formless (whole_of piece)) pieces then Err NotNumber
    else (if list_any (λ piece. is_beyond (whole_of piece)) pieces then Err OutOfRange
    else Ok (map (λ piece. value_in (whole_of piece)) pieces))

-- identifiers that were read, or the complaint about their column
abbrev pub ids_told : Column → Result (List ℕ) NumberFault → Result (List ℕ) Complaint
ids_told what (Ok ids) = Ok ids
ids_told what (Err fault) = Err (not_a_number what fault)

-- the identifiers in a field of a column; an empty one has none
unfoldable pub ids_in : Column → List ℕ → Result (List ℕ) Complaint
ids_in what text =
    if length text == 0 then Ok [] else ids_told what (identifiers_of (pieces_of text))

-- ---- rows

-- the row of a record after the rows before it, or the first check that fails
unfoldable pub start_row_of : Checks StartRow
start_row_of before r =
    then_with (identifier column.AgentId (text r column.AgentId)) (λ agent.
    then_with (unless (is_some (place_of (agents_of before) agent)) code.E6 column.AgentId) (λ _.
    then_with (identifier column.OZoneId (text r column.OZoneId)) (λ origin.
    then_with (identifier column.DZoneId (text r column.DZoneId)) (λ destination.
    then_with (ids_in column.LinkIds (text r column.LinkIds)) (λ links.
    Ok (record { agent = agent; origin = origin; destination = destination; links = links }))))))

-- a start table's rows, or its first fault
abbrev pub start_verdict : List Record → Result (List StartRow) TableFault
start_verdict records = verdict table.Start MOST_START_ROWS start_columns start_row_of records
