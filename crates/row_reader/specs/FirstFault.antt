-- The first fault of a table: the least line at which a check fails, and there the first check
-- that fails.
use Rattle.std.specs.Prelude.{ℕ, ◌+◌, ◌≡◌, List, [], ◌∷◌, ◌++◌, length, Result, Ok, Err}
use Rattle.std.specs.Prelude.{if◌then◌else◌, nat_le, ⊤}
use Rattle.desk_io.specs.declared.desk.Table.{Table}
use Rattle.row_reader.specs.Records.{Record, is_text, is_good}
use Rattle.row_reader.specs.Rows.{FieldsView, HasBadHeader}
use Rattle.row_reader.specs.Faults.{fault_of}
use Rattle.row_reader.specs.Fields.{complain, has_columns, then_with}
use Rattle.row_reader.specs.declared.accepted.RowRefusal.{RowRefusal}
use Rattle.row_reader.specs.declared.accepted.RowRefusal.TheVariants as row_refusal
use Rattle.row_reader.specs.declared.faults.Code.TheVariants.{E2, E12}
use Rattle.row_reader.specs.declared.faults.Column.{Column}
use Rattle.row_reader.specs.declared.faults.Column.TheVariants.{NoColumn}
use Rattle.row_reader.specs.declared.faults.Complaint.{Complaint}
use Rattle.row_reader.specs.declared.faults.TableFault.{TableFault}
use Rattle.row_reader.specs.declared.faults.TableRefusal.{TableRefusal}
use Rattle.row_reader.specs.declared.faults.TableRefusal.TheVariants as refusal

-- a rule for what a record gives after the rows before it: its row, or the first check that fails
abbrev pub Judge : Type 0 → Type 0
Judge R = List R → Record → Result R Complaint

-- a table's checks of a line: what the fields of a record give after the rows before it
abbrev pub Checks : Type 0 → Type 0
Checks R = List R → FieldsView → Result R Complaint

-- what a check of a line gives: a complaint is a fault at that line
abbrev pub at_line : {A : Type 0} → Table → ℕ → Result A Complaint → Result A TableFault
at_line table line (Ok x) = Ok x
at_line table line (Err c) = Err (fault_of table line c)

-- under a header and with a most number of rows:
-- the record itself, then the number of rows, then what its fields give
abbrev pub judged : {R : Type 0} → Record → ℕ → Checks R → Judge R
judged header limit checks before r =
    if is_good header r
    then (if nat_le limit (length before)
    then Err (complain E12 NoColumn)
    else checks before (record { header = header; fields = r; line = length before + 2 }))
    else Err (complain E2 NoColumn)

-- the rows before and those of these records, or the first fault:
-- the header and the rows before have the lines above
unfoldable pub rows_from : {R : Type 0}
    → Table → Judge R → List R → List Record → Result (List R) TableFault
rows_from table judge before [] = Ok before
rows_from table judge before (r ∷ rest) =
    then_with (at_line table (length before + 2) (judge before r)) (λ row.
    rows_from table judge (before ++ row ∷ []) rest)

-- a table's rows under a header that must have some columns, or the first fault
abbrev pub rows_of : {R : Type 0}
    → Table → ℕ → List Column → Checks R → Record → List Record → Result (List R) TableFault
rows_of table limit required checks header rest =
    then_with (at_line table 1 (has_columns header required)) (λ _.
    rows_from table (judged header limit checks) [] rest)

-- a table's rows, or its first fault.
-- The first record is the header: a text without records has a header of no columns
unfoldable pub verdict : {R : Type 0}
    → Table → ℕ → List Column → Checks R → List Record → Result (List R) TableFault
verdict table limit required checks [] = rows_of table limit required checks [] []
verdict table limit required checks (header ∷ rest) =
    if is_text header
    then rows_of table limit required checks header rest
    else Err (fault_of table 1 (complain E2 NoColumn))

-- what a reader answers: the rows, the first fault, or want of memory
abbrev pub Tells : {R : Type 0} → Result (List R) TableFault → Result (List R) TableRefusal → Type 0
Tells told (Ok rows) = told ≡ Ok rows
Tells told (Err (refusal.Fault f)) = told ≡ Err f
Tells told (Err refusal.Memory) = ⊤

-- what the reader of a record answers: its row, the first check that fails, or want of memory
abbrev pub TellsRow : {R : Type 0} → Result R Complaint → Result R RowRefusal → Type 0
TellsRow told (Ok row) = told ≡ Ok row
TellsRow told (Err (row_refusal.Complaint complaint)) = told ≡ Err complaint
TellsRow told (Err row_refusal.Memory) = ⊤

-- the rows in a reader's answer
abbrev pub rows_in :
    {A R : Type 0} → (A → List R) → Result A TableRefusal → Result (List R) TableRefusal
rows_in rows (Ok answer) = Ok (rows answer)
rows_in rows (Err refusal) = Err refusal

-- why a table isn't opened: its header isn't text, or want of memory
abbrev pub TellsHeader : Table → List Record → TableRefusal → Type 0
TellsHeader table all (refusal.Fault f) =
    HasBadHeader all × (f ≡ fault_of table 1 (complain E2 NoColumn))
TellsHeader table all refusal.Memory = ⊤
