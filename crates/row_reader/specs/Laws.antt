-- What the rows of a table and its first fault are, over its whole list of records.
use Rattle.std.specs.Prelude.{ℕ, ◌+◌, ◌≡◌, List, ◌∷◌, ◌++◌, length, take, slice_get, Ok, Err, Some}
use Rattle.desk_io.specs.declared.desk.Table.{Table}
use Rattle.row_reader.specs.Records.{Record}
use Rattle.row_reader.specs.Faults.{fault_of}
use Rattle.row_reader.specs.FirstFault.{Judge}
use Rattle.row_reader.specs.declared.faults.Complaint.{Complaint}
use Rattle.row_reader.specs.declared.faults.TableFault.{TableFault}

-- these rows are those of these records:
-- as many, and each is what its record gives after the rows before it
pub record AreOwn {R : Type 0} (judge : Judge R) (before : List R)
    (records : List Record) (own : List R) : Type 0 where
  pub count : length own ≡ length records
  pub each : (k : ℕ) (r : Record) (row : R)
      → slice_get records k ≡ Some r → slice_get own k ≡ Some row
      → judge (before ++ take k own) r ≡ Ok row

-- the accepted rows are the rows before and then those of all records
pub record AreAccepted {R : Type 0} (judge : Judge R) (before : List R)
    (records : List Record) (rows : List R) : Type 0 where
  pub own : List R
  pub joined : rows ≡ before ++ own
  pub are_own : AreOwn judge before records own

-- the fault is what some record complains of, at its line, and the records before it were all
-- accepted
pub record IsFirstFault {R : Type 0} (table : Table) (judge : Judge R) (before : List R)
    (records : List Record) (fault : TableFault) : Type 0 where
  pub earlier : List Record
  pub bad : Record
  pub later : List Record
  pub parted : records ≡ earlier ++ bad ∷ later
  pub own : List R
  pub are_own : AreOwn judge before earlier own
  pub complaint : Complaint
  pub complains : judge (before ++ own) bad ≡ Err complaint
  pub told : fault ≡ fault_of table (length before + length earlier + 2) complaint
