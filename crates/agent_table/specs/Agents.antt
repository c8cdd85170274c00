-- The rows of an agent table, as its text tells them.
use Rattle.std.specs.Prelude.{ℕ, ◌==◌, List, [], ◌∷◌, length, if◌then◌else◌, Option, None, Result}
use Rattle.std.specs.Prelude.{Ok}
use Rattle.desk_io.specs.declared.desk.Table.TheVariants as table
use Rattle.row_reader.specs.Columns.{text}
use Rattle.row_reader.specs.Fields.{identifier, option_of, then_with}
use Rattle.row_reader.specs.FirstFault.{Checks, verdict}
use Rattle.row_reader.specs.Records.{Record}
use Rattle.row_reader.specs.declared.faults.Column.{Column}
use Rattle.row_reader.specs.declared.faults.Column.TheVariants as column
use Rattle.row_reader.specs.declared.faults.Complaint.{Complaint}
use Rattle.row_reader.specs.declared.faults.TableFault.{TableFault}
use Rattle.start_table.specs.StartTable.{ids_in}
use Rattle.agent_table.specs.declared.rows.AgentRow.{AgentRow}
use Rattle.agent_table.specs.declared.rows.TheConstants.{MOST_AGENT_ROWS}

-- an identifier, or nothing where the field is empty
unfoldable pub optional_identifier : Column → List ℕ → Result (Option ℕ) Complaint
optional_identifier what text =
    if length text == 0 then Ok None else option_of (identifier what text)

-- the row of a record, or the first check that fails. Any text is a status
unfoldable pub agent_row_of : Checks AgentRow
agent_row_of before r =
    then_with (identifier column.AgentId (text r column.AgentId)) (λ agent.
    then_with (identifier column.OZoneId (text r column.OZoneId)) (λ origin.
    then_with (identifier column.DZoneId (text r column.DZoneId)) (λ destination.
    then_with (identifier column.DepartureStep (text r column.DepartureStep)) (λ departure.
    then_with (optional_identifier column.ArrivalStep (text r column.ArrivalStep)) (λ arrival.
    then_with (ids_in column.LinkIds (text r column.LinkIds)) (λ links.
    then_with (ids_in column.EntrySteps (text r column.EntrySteps)) (λ entries.
    Ok (record {
      agent = agent;
      origin = origin;
      destination = destination;
      departure = departure;
      arrival = arrival;
      status = text r column.Status;
      links = links;
      entries = entries;
    }))))))))

-- the columns that an agent table must have
abbrev pub agent_columns : List Column
agent_columns =
    column.AgentId ∷ column.OZoneId ∷ column.DZoneId ∷ column.DepartureStep ∷ column.ArrivalStep
    ∷ column.Status ∷ column.LinkIds ∷ column.EntrySteps ∷ []

-- an agent table's rows, or its first fault
abbrev pub agents_verdict : List Record → Result (List AgentRow) TableFault
agents_verdict records = verdict table.Start MOST_AGENT_ROWS agent_columns agent_row_of records
