-- The rows of a times table: one for each bucket of each link of a network, link by link.
use Rattle.std.specs.Prelude.{ℕ, ◌+◌, ◌*◌, ◌/◌, ◌%◌, min, not, nat_eq, nat_lt, if◌then◌else◌, Bool}
use Rattle.std.specs.Prelude.{List, [], ◌∷◌, length, slice_get, Option, None, Some, option_map}
use Rattle.std.specs.Prelude.{Result, Ok, Err}
use Rattle.std.specs.List.{list_any}
use Rattle.desk_io.specs.declared.desk.Table.TheVariants as table
use Rattle.row_reader.specs.Columns.{text}
use Rattle.row_reader.specs.Faults.{fault_of}
use Rattle.row_reader.specs.Fields.{complain, identifier, then_with, unless, within}
use Rattle.row_reader.specs.FirstFault.{Checks, verdict}
use Rattle.row_reader.specs.Records.{Record}
use Rattle.row_reader.specs.declared.faults.Code.TheVariants.{E8, E13}
use Rattle.row_reader.specs.declared.faults.Column.{Column}
use Rattle.row_reader.specs.declared.faults.Column.TheVariants as column
use Rattle.row_reader.specs.declared.faults.Complaint.{Complaint}
use Rattle.row_reader.specs.declared.faults.TableFault.{TableFault}
use Rattle.net_core.specs.declared.rows.LinkRow.{LinkRow}
use Rattle.net_core.specs.declared.rows.NetRows.{NetRows}
use Rattle.dta_model.specs.LinkTimes.{buckets_to}
use Rattle.skims.specs.declared.time_rows.TimeRow.{TimeRow}
use Rattle.skims.specs.declared.times_table.TheConstants.{MOST_TIME_ROWS, MOST_TRAVEL_STEPS}
use Rattle.skims.specs.declared.wanted.Wanted.{Wanted}

-- the columns that a times table must have
abbrev pub times_columns : List Column
times_columns =
    column.LinkId ∷ column.FromStep ∷ column.ToStep ∷ column.Entered ∷ column.TravelSteps
    ∷ column.FreeSteps ∷ []

-- what the row of a bucket of a link has to tell: the link's identifier, the first step, the step
-- after the last one, which the horizon may cut short, and the link's free-flow steps
abbrev pub wanted_in : ℕ → ℕ → ℕ → LinkRow → Wanted
wanted_in bucket horizon b link = record {
  link = link.id;
  from = b * bucket;
  to = min ((b + 1) * bucket) horizon;
  free = link.free;
}

-- what the row after so many others has to tell: each link has as many rows as there are buckets.
-- None past the last bucket of the last link
abbrev pub wanted_after : NetRows → ℕ → ℕ → ℕ → Option Wanted
wanted_after net bucket horizon rows =
    option_map (wanted_in bucket horizon (rows % buckets_to bucket horizon))
    (slice_get net.links (rows / buckets_to bucket horizon))

-- whether some link has an identifier
abbrev pub has_link : List LinkRow → ℕ → Bool
has_link links id = list_any (λ link. nat_eq link.id id) links

-- a link's identifier is that of the row's own link
abbrev pub own_link : Option Wanted → ℕ → Result Wanted Complaint
own_link None id = Err (complain E13 column.LinkId)
own_link (Some wanted) id =
    if nat_eq id wanted.link then Ok wanted else Err (complain E13 column.LinkId)

-- what a row has to tell, where its field names its own link
unfoldable pub link_of : List LinkRow → Option Wanted → List ℕ → Result Wanted Complaint
link_of links wanted text =
    then_with (identifier column.LinkId text) (λ id.
    then_with (unless (not (has_link links id)) E8 column.LinkId) (λ _.
    own_link wanted id))

-- a required identifier that is this one
unfoldable pub same_number : Column → ℕ → List ℕ → Result ℕ Complaint
same_number what wanted text =
    then_with (identifier what text) (λ n.
    if nat_eq n wanted then Ok n else Err (complain E13 what))

-- the steps that a link takes: one at least
unfoldable pub travel_of : List ℕ → Result ℕ Complaint
travel_of text =
    then_with (identifier column.TravelSteps text) (within column.TravelSteps 1 MOST_TRAVEL_STEPS)

-- the row of a record after the rows before it, or the first check that fails
unfoldable pub time_row_of : NetRows → ℕ → ℕ → Checks TimeRow
time_row_of net bucket horizon before r =
    then_with (link_of net.links (wanted_after net bucket horizon (length before))
    (text r column.LinkId)) (λ wanted.
    then_with (same_number column.FromStep wanted.from (text r column.FromStep)) (λ _.
    then_with (same_number column.ToStep wanted.to (text r column.ToStep)) (λ _.
    then_with (identifier column.Entered (text r column.Entered)) (λ entered.
    then_with (travel_of (text r column.TravelSteps)) (λ travel.
    then_with (same_number column.FreeSteps wanted.free (text r column.FreeSteps)) (λ _.
    Ok (record { entered = entered; travel = travel })))))))

-- as many rows as a network's links have buckets
abbrev pub row_count : NetRows → ℕ → ℕ → ℕ
row_count net bucket horizon = length net.links * buckets_to bucket horizon

-- rows that were accepted, where none is missing: the fault of a missing one is at the line after
-- the last record
abbrev pub none_missing : ℕ → List TimeRow → Result (List TimeRow) TableFault
none_missing count rows =
    if nat_lt (length rows) count
    then Err (fault_of table.Times (length rows + 2) (complain E13 column.NoColumn))
    else Ok rows

-- a times table's rows over a network, with buckets of so many steps up to a horizon, or its first
-- fault
abbrev pub times_verdict : NetRows → ℕ → ℕ → List Record → Result (List TimeRow) TableFault
times_verdict net bucket horizon records =
    then_with
    (verdict table.Times MOST_TIME_ROWS times_columns (time_row_of net bucket horizon) records)
    (none_missing (row_count net bucket horizon))
