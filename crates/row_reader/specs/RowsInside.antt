-- What rows keep inside, and how callers see it.
use Rattle.std.specs.Borrow.{Bor}
use Rattle.std.specs.Prelude.{ℕ, ◌+◌, ◌<◌, ◌^◌, ◌≡◌, Bool, List, [], length, Option, None, Some}
use Rattle.std.specs.Prelude.{IsNone, false, if◌then◌else◌}
use Rattle.csv.specs.Records.{fields_of}
use Rattle.csv.specs.Reading.{default_config, expected_len, has_failed, is_flexible, reader_config}
use Rattle.csv.specs.Reading.{reader_state, reader_trim, records_from, source_of, strip_bom, Ready}
use Rattle.csv.specs.declared.parser.State.{State}
use Rattle.csv.specs.declared.parser.State.TheVariants as st
use Rattle.csv.specs.declared.reader.Reader.{Reader}
use Rattle.csv.specs.declared.reader.Trim.TheVariants as trim
use Rattle.row_reader.specs.Records.{Record}
use Rattle.row_reader.specs.Rows.{RowView, RowsView}
use Rattle.row_reader.specs.declared.rows.RowFault.{RowFault}
use Rattle.row_reader.specs.declared.rows.Rows.TheInside as rows
use Rattle.row_reader.specs.declared.rows.Row.TheInside as row

abbrev pub row_view : row.Inside → RowView
row_view a = record { fields = fields_of a.fields; line = a.line }

-- the records that are left from a state of the parser, where the bytes left are known
abbrev pub records_left : State → Option (List ℕ) → List Record
records_left s None = []
records_left s (Some bytes) = records_from default_config (length bytes + 1) s bytes

-- the bytes that a reader has left
abbrev pub source : Reader (Bor (List ℕ)) → Option (List ℕ)
source r = source_of (λ s. Some s.now) r

-- the records that a reader has left
abbrev pub records_of : Reader (Bor (List ℕ)) → List Record
records_of r = records_left (reader_state r) (source r)

-- rows with this reader, as callers see them
abbrev pub view_of : Reader (Bor (List ℕ)) → Record → ℕ → Bool → Option RowFault → RowsView
view_of r header line ended fault = record {
  header = header;
  line = line;
  rest = if ended then [] else records_of r;
  fault = fault;
}

abbrev pub rows_view : rows.Inside → RowsView
rows_view a = view_of a.reader.value a.header a.line a.ended a.fault

-- a reader at the start of a text
pub record IsFresh (r : Reader (Bor (List ℕ))) (text : List ℕ) : Type 0 where
  pub config : reader_config r ≡ default_config
  pub trim : reader_trim r ≡ trim.None
  pub flexible : is_flexible r ≡ false
  pub ready : Ready r
  pub running : has_failed r ≡ false
  pub state : reader_state r ≡ st.StartRecord
  pub whole : source r ≡ Some (strip_bom text)
  pub expected : expected_len r ≡ None

-- what a reader keeps below a header, after the record at a line
pub record IsReading (r : Reader (Bor (List ℕ))) (header : Record) (line : ℕ) : Type 0 where
  pub config : reader_config r ≡ default_config
  pub trim : reader_trim r ≡ trim.None
  pub flexible : is_flexible r ≡ false
  pub ready : Ready r
  pub running : has_failed r ≡ false
  pub lines : line + length (records_of r) < 2 ^ 64
  pub expected : expected_len r ≡ Some (length header)

-- what rows keep until they end or a fault stands
abbrev pub IsSoundRows : rows.Inside → Type 0
IsSoundRows a =
    IsNone a.fault → a.ended ≡ false → IsReading a.reader.value a.header a.line
