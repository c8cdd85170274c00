-- Rows of a table as a caller sees them.
use Rattle.std.specs.Prelude.{ℕ, ◌+◌, ◌≡◌, List, [], ◌∷◌, Option, None, Some, true, false, Result}
use Rattle.std.specs.Prelude.{Ok, Err, ⊤}
use Rattle.row_reader.specs.Records.{Record, is_text, is_good}
use Rattle.row_reader.specs.declared.rows.RowFault.{RowFault}
use Rattle.row_reader.specs.declared.rows.RowFault.TheVariants.{BadRecord, Memory}

-- a row: its fields, and its line, the number of its record from 1
pub record RowView : Type 0 where
  pub fields : Record
  pub line : ℕ

-- the fields of a record under its header, and its line
pub record FieldsView : Type 0 where
  pub header : Record
  pub fields : Record
  pub line : ℕ

-- rows: the header, the line of the last record that was read, the records that are left, and the
-- fault that stands, if any
pub record RowsView : Type 0 where
  pub header : Record
  pub line : ℕ
  pub rest : List Record
  pub fault : Option RowFault

-- the first rows of a table with these records: a text without records has a header of no columns
abbrev pub OpensAs : List Record → RowsView → Type 0
OpensAs [] rows = rows ≡ record { header = []; line = 1; rest = []; fault = None }
OpensAs (header ∷ rest) rows =
    (is_text header ≡ true)
    × (rows ≡ record { header = header; line = 1; rest = rest; fault = None })

-- the header is there and isn't text
abbrev pub HasBadHeader : List Record → Type 0
HasBadHeader [] = ⊥
HasBadHeader (header ∷ rest) = is_text header ≡ false

-- the next record is there and isn't good
abbrev pub HasBadNext : Record → List Record → Type 0
HasBadNext header [] = ⊥
HasBadNext header (r ∷ rest) = is_good header r ≡ false

-- why rows answer a fault: a bad record is the next one, at its line
abbrev pub ExplainsFault : RowsView → RowFault → Type 0
ExplainsFault old Memory = ⊤
ExplainsFault old (BadRecord line) = (line ≡ old.line + 1) × HasBadNext old.header old.rest

-- one step of rows without a fault: the end, the next record, or a fault that stands from then on
abbrev pub Steps : RowsView → RowsView → Result (Option RowView) RowFault → Type 0
Steps old new (Ok None) = (old.rest ≡ []) × (new ≡ old)
Steps old new (Ok (Some row)) =
    (old.rest ≡ row.fields ∷ new.rest) × (is_good old.header row.fields ≡ true)
    × (row.line ≡ old.line + 1) × (new ≡ record old { line = old.line + 1; rest = new.rest })
Steps old new (Err fault) =
    (new ≡ record old { rest = new.rest; fault = Some fault }) × ExplainsFault old fault
