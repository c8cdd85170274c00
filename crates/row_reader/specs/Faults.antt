-- What a fault is made of.
use Rattle.std.specs.Prelude.{ℕ}
use Rattle.csv.specs.declared.error.ErrorKind.{ErrorKind}
use Rattle.csv.specs.declared.error.ErrorKind.TheVariants as kind
use Rattle.desk_io.specs.declared.desk.Table.{Table}
use Rattle.row_reader.specs.declared.rows.RowFault.{RowFault}
use Rattle.row_reader.specs.declared.rows.RowFault.TheVariants.{BadRecord, Memory}
use Rattle.row_reader.specs.declared.faults.Complaint.{Complaint}
use Rattle.row_reader.specs.declared.faults.TableFault.{TableFault}

-- an unequal length and bytes that are no text make a bad record, and the rest is want of memory
abbrev pub fault_of_kind : ErrorKind → ℕ → RowFault
fault_of_kind (kind.UnequalLengths pos expected len) line = BadRecord line
fault_of_kind (kind.Utf8 pos err) line = BadRecord line
fault_of_kind (kind.Io e) line = Memory
fault_of_kind kind.OutOfMemory line = Memory
fault_of_kind (kind.Serialize text) line = Memory
fault_of_kind (kind.Deserialize pos err) line = Memory

-- a complaint at a line of a table
abbrev pub fault_of : Table → ℕ → Complaint → TableFault
fault_of table line c = record { table = table; line = line; code = c.code; column = c.column }
