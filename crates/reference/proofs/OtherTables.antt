-- The rows of accepted start and times tables are in range.
use Rattle.std.proofs.Common.{◌≡◌, ◌≤◌, ◌<◌, ℕ, List, [], ◌∷◌, ◌++◌, length, length-append, refl, subst, arith}
use Rattle.std.specs.Prelude.{Ok, is_some}
use Rattle.std.specs.Cmp.{nat_eq_equiv}
use Rattle.desk_io.specs.declared.desk.Table.TheVariants as table
use Rattle.row_reader.specs.Columns.{text}
use Rattle.row_reader.specs.Fields.{identifier, unless}
use Rattle.row_reader.specs.FirstFault.{verdict}
use Rattle.row_reader.specs.Records.{Record}
use Rattle.row_reader.specs.Rows.{FieldsView}
use Rattle.row_reader.specs.declared.faults.Code.TheVariants as code
use Rattle.row_reader.specs.declared.faults.Column.TheVariants as column
use Rattle.net_core.specs.Ids.{place_of}
use Rattle.net_core.specs.declared.rows.NetRows.{NetRows}
use Rattle.gmns_tables.proofs.ChainFacts.{unless-ok}
use Rattle.start_table.specs.Starts.{AreStartRows, agents_of}
use Rattle.start_table.specs.StartTable.{ids_in, start_columns, start_row_of, start_verdict}
use Rattle.start_table.specs.declared.rows.StartRow.{StartRow}
use Rattle.start_table.specs.declared.rows.TheConstants.{MOST_START_ROWS}
use Rattle.skims.specs.GivenTimes.{AreRowsOf}
use Rattle.skims.specs.TimesTable.{row_count, time_row_of, times_columns, times_verdict}
use Rattle.skims.specs.declared.time_rows.TimeRow.{TimeRow}
use Rattle.skims.specs.declared.times_table.TheConstants.{MOST_TIME_ROWS}
use Rattle.skims.proofs.TimesFacts.{rows-told}
use Rattle.assignment.proofs.AssignmentFacts.{no-start-rows}
use Rattle.reference.proofs.FieldsInRange.{fresh}
use Rattle.row_reader.proofs.Kept.{kept, next_ok, same_Ok}

-- ---- the start table

start-more : (before : List StartRow) (r : FieldsView) (row : StartRow) → start_row_of before r ≡ Ok row
    → length before < MOST_START_ROWS → AreStartRows before → AreStartRows (before ++ row ∷ [])
unfolding start_row_of
start-more before r row e room are =
    next_ok (identifier column.AgentId (text r column.AgentId)) _ row e (λ agent _ e1.
    next_ok (unless (is_some (place_of (agents_of before) agent)) code.E6 column.AgentId) _ row e1 (λ _ new e2.
    next_ok (identifier column.OZoneId (text r column.OZoneId)) _ row e2 (λ origin _ e3.
    next_ok (identifier column.DZoneId (text r column.DZoneId)) _ row e3 (λ destination _ e4.
    next_ok (ids_in column.LinkIds (text r column.LinkIds)) _ row e4 (λ links _ e5.
    subst (λ (s : StartRow). AreStartRows (before ++ s ∷ [])) (same_Ok _ _ e5) (record {
      distinct = fresh nat_eq_equiv (λ (s : StartRow). s.agent) before (record { agent = agent; origin = origin; destination = destination; links = links }) are.distinct
          (unless-ok _ code.E6 column.AgentId new);
      few = omega (arith, length-append {A = StartRow});
    }))))))

pub are-starts : (all : List Record) (rows : List StartRow) → start_verdict all ≡ Ok rows → AreStartRows rows
are-starts all rows e = kept AreStartRows table.Start MOST_START_ROWS start_columns start_row_of start-more all rows e no-start-rows

-- ---- link times

pub are-times : (net : NetRows) (bucket horizon : ℕ) (all : List Record) (rows : List TimeRow) → 1 ≤ bucket → 1 ≤ horizon
    → times_verdict net bucket horizon all ≡ Ok rows → AreRowsOf net bucket horizon rows
are-times net bucket horizon all rows some long e =
    next_ok (verdict table.Times MOST_TIME_ROWS times_columns (time_row_of net bucket horizon) all) _ rows e (λ read accepted none.
    rows-told net bucket horizon (row_count net bucket horizon) all read (Ok rows) some long refl accepted none)
