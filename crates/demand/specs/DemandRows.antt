-- The rows of a demand table.
use Rattle.std.specs.Prelude.{ℕ, ◌≡◌, ◌+◌, ◌-◌, ◌≤◌, ◌==◌, List, [], ◌∷◌, length, map, All}
use Rattle.std.specs.Prelude.{Result, Ok, if◌then◌else◌}
use Rattle.std.specs.List.{range_with_len}
use Rattle.fixed_units.specs.declared.quantity.TheConstants.{MOST_THOUSANDTHS}
use Rattle.desk_io.specs.declared.desk.Table.TheVariants as table
use Rattle.row_reader.specs.Records.{Record}
use Rattle.row_reader.specs.Columns.{text}
use Rattle.row_reader.specs.FirstFault.{Checks, verdict}
use Rattle.row_reader.specs.Fields.{identifier, quantity, then_with, within}
use Rattle.row_reader.specs.declared.faults.Column.{Column}
use Rattle.row_reader.specs.declared.faults.Column.TheVariants as column
use Rattle.row_reader.specs.declared.faults.Complaint.{Complaint}
use Rattle.row_reader.specs.declared.faults.TableFault.{TableFault}
use Rattle.dta_model.specs.Release.{HaveWindows}
use Rattle.dta_model.specs.declared.trip.DemandCell.{DemandCell}
use Rattle.demand.specs.declared.demand_rows.TheConstants.{FIRST_LINE, MOST_DEMAND_CELLS}

-- the step in an optional field, from one to another, with a third one in its place where the
-- field is empty
unfoldable pub step_or : ℕ → Column → ℕ → ℕ → List ℕ → Result ℕ Complaint
step_or otherwise what low high text =
    if length text == 0 then Ok otherwise
    else then_with (identifier what text) (within what low high)

-- the demand cell of a record after those before it, in a period of so many steps, or the first
-- check that fails: each record has a line, and the header and the rows before have those above
unfoldable pub demand_cell_of : ℕ → Checks DemandCell
demand_cell_of period before r =
    then_with (identifier column.OZoneId (text r column.OZoneId)) (λ origin.
    then_with (identifier column.DZoneId (text r column.DZoneId)) (λ destination.
    then_with (quantity column.Volume (text r column.Volume)) (λ volume.
    then_with (step_or 0 column.FromStep 0 (period - 1) (text r column.FromStep)) (λ from.
    then_with (step_or period column.ToStep (from + 1) period (text r column.ToStep)) (λ to.
    Ok (record {
      line = length before + FIRST_LINE;
      origin = origin;
      destination = destination;
      volume = volume;
      from = from;
      to = to;
    }))))))

-- the columns that a demand table must have
abbrev pub demand_columns : List Column
demand_columns = column.OZoneId ∷ column.DZoneId ∷ column.Volume ∷ []

-- what a demand table's rows say in a period of so many steps, or its first fault
abbrev pub demand_verdict : ℕ → List Record → Result (List DemandCell) TableFault
demand_verdict period records =
    verdict table.Demand MOST_DEMAND_CELLS demand_columns (demand_cell_of period) records

-- what is true of the demand cells of every table
pub record AreDemandCells (period : ℕ) (cells : List DemandCell) : Type 0 where
  pub few : length cells ≤ MOST_DEMAND_CELLS
  -- no volume is above the greatest quantity
  pub volumes : All (λ cell. cell.volume ≤ MOST_THOUSANDTHS) cells
  -- they have the lines below the header, one after another
  pub lines : map (λ cell. cell.line) cells ≡ range_with_len FIRST_LINE (length cells)
  -- windows have a step, and end with the period at the latest
  pub windows : HaveWindows period cells
