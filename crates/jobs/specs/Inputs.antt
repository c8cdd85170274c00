-- What each command does, and what it takes of its tables.
use Rattle.std.specs.Prelude.{ℕ, ◌≡◌, ⊤, Bool, List, [], Result, Ok}
use Rattle.desk_io.specs.declared.desk.Table.{Table}
use Rattle.row_reader.specs.Fields.{then_with}
use Rattle.row_reader.specs.Records.{records}
use Rattle.row_reader.specs.declared.faults.TableFault.{TableFault}
use Rattle.dta_model.specs.declared.trip.DemandCell.{DemandCell}
use Rattle.start_table.specs.StartTable.{start_verdict}
use Rattle.agent_table.specs.Agents.{agents_verdict}
use Rattle.dta_words.specs.declared.command.Command.{Command}
use Rattle.dta_words.specs.declared.command.Command.TheVariants as command
use Rattle.jobs.specs.Limits.{Limits, loading_limits, no_limits, skim_limits, sweep_limits}
use Rattle.jobs.specs.TableRows.{TableRows, all_tables, audit_tables, loading_tables, road_tables}
use Rattle.jobs.specs.TableRows.{skim_tables}

-- the rows with those of an agent table: a start table, or for an audit all that it tells of its
-- vehicles
abbrev pub with_start : TableRows → List ℕ → Result TableRows TableFault
with_start rows bytes =
    then_with (start_verdict (records bytes)) (λ start. Ok (record rows { start = start }))

abbrev pub with_vehicles : TableRows → List ℕ → Result TableRows TableFault
with_vehicles rows bytes =
    then_with (agents_verdict (records bytes)) (λ agents. Ok (record rows { agents = agents }))

-- what is done over tables: free-flow steps are told, an assignment is made, least times are
-- found, assignments for multiples of the demand are made, or an assignment is checked
pub data Kind : Type 0 where
  FreeFlow : Kind
  Assigning : Kind
  Skimming : Kind
  Sweeping : Kind
  Auditing : Kind

-- what is taken for it: its tables, in the order in which they are read, where a start table is
-- asked for or not; whether it reads link times; the rows with those of an agent table; the demand
-- that is released once, and that which is multiplied; its limits
pub record Inputs : Type 1 where
  pub tables : (start : Bool) → List Table
  pub takes_times : Type 0
  pub with_agents : TableRows → List ℕ → Result TableRows TableFault
  pub released : List DemandCell → List DemandCell
  pub swept : List DemandCell → List DemandCell
  pub limits : Limits

abbrev pub assignment_inputs : Inputs
assignment_inputs = record {
  tables = loading_tables;
  takes_times = ⊥;
  with_agents = with_start;
  released = λ cells. cells;
  swept = λ cells. [];
  limits = loading_limits;
}

abbrev pub inputs_by : Kind → Inputs
inputs_by FreeFlow = record assignment_inputs {
  tables = λ start. road_tables;
  limits = no_limits;
}
inputs_by Assigning = assignment_inputs
inputs_by Skimming = record assignment_inputs {
  tables = λ start. skim_tables;
  takes_times = ⊤;
  limits = skim_limits;
}
inputs_by Sweeping = record assignment_inputs {
  tables = λ start. all_tables;
  released = λ cells. [];
  swept = λ cells. cells;
  limits = sweep_limits;
}
inputs_by Auditing = record assignment_inputs {
  tables = λ start. audit_tables;
  takes_times = ⊤;
  with_agents = with_vehicles;
}

-- what a command does
abbrev pub kind_of : Command → Kind
kind_of command.Freeflow = FreeFlow
kind_of command.Assign = Assigning
kind_of (command.Demo n) = Assigning
kind_of command.Skim = Skimming
kind_of command.Counts = Assigning
kind_of command.Sweep = Sweeping
kind_of command.Audit = Auditing

abbrev pub inputs_of : Command → Inputs
inputs_of c = inputs_by (kind_of c)

abbrev pub tables_of : Command → (start : Bool) → List Table
tables_of c start = (inputs_of c).tables start

-- it does the work of one assignment
abbrev pub Assigns : Command → Type 0
Assigns c = kind_of c ≡ Assigning

abbrev pub TakesTimes : Command → Type 0
TakesTimes c = (inputs_of c).takes_times

abbrev pub limits_of : Command → Limits
limits_of c = (inputs_of c).limits
