-- Small worked cases of agent tables.
use Rattle.std.specs.Prelude.{◌≡◌, ℕ, List, [], ◌∷◌, ◌++◌, None, Some, Result, Ok, Err, codes}
use Rattle.std.specs.Prelude.{refl}
use Rattle.desk_io.specs.declared.desk.Table.TheVariants as table
use Rattle.row_reader.specs.Records.{records}
use Rattle.row_reader.specs.declared.faults.Code.{Code}
use Rattle.row_reader.specs.declared.faults.Code.TheVariants as code
use Rattle.row_reader.specs.declared.faults.Column.{Column}
use Rattle.row_reader.specs.declared.faults.Column.TheVariants as column
use Rattle.row_reader.specs.declared.faults.TableFault.{TableFault}
use Rattle.agent_table.specs.Agents.{agents_verdict}
use Rattle.agent_table.specs.OnLiterals.{agents_on_literals}
use Rattle.agent_table.specs.declared.rows.AgentRow.{AgentRow}
use Rattle.agent_table.specs.declared.rows.TheConstants.{MOST_AGENT_ROWS}

-- agent tables, of their lines below the header
abbrev header : List ℕ
header =
    codes "agent_id,o_zone_id,d_zone_id,departure_step,arrival_step,status,link_ids,entry_steps\n"

abbrev told : List ℕ → Result (List AgentRow) TableFault
told lines = agents_verdict (records (header ++ lines))

-- a table that has this fault
refused : ℕ → Code → Column → Result (List AgentRow) TableFault
refused line why what =
    Err (record { table = table.Start; line = line; code = why; column = what })

abbrev pub arrived : AgentRow
arrived = record {
  agent = 1;
  origin = 1;
  destination = 3;
  departure = 15;
  arrival = Some 35;
  status = codes "arrived";
  links = 10 ∷ 20 ∷ [];
  entries = 15 ∷ 25 ∷ [];
}

one_row : told (codes "1,1,3,15,35, arrived ,10;20,15;25\n") ≡ Ok (arrived ∷ [])
unfolding agents_on_literals
one_row = refl

-- nothing is told of an arrival, a status, links and entries
nothing_told : told (codes "1,1,3,15,,,,\n")
    ≡ Ok (record arrived { arrival = None; status = []; links = []; entries = [] } ∷ [])
unfolding agents_on_literals
nothing_told = refl

-- columns are looked at from the first on, each for itself
no_departure : told (codes "1,1,3,,x,arrived,x,x\n") ≡ refused 2 code.E3 column.DepartureStep
unfolding agents_on_literals refused
no_departure = refl

no_number : told (codes "1,1,3,15,x,arrived,10;20,15;25\n") ≡ refused 2 code.E4 column.ArrivalStep
unfolding agents_on_literals refused
no_number = refl

no_steps : told (codes "1,1,3,15,35,arrived,10;20,15; 25\n") ≡ refused 2 code.E4 column.EntrySteps
unfolding agents_on_literals refused
no_steps = refl

most_rows : MOST_AGENT_ROWS ≡ 2000000
most_rows = refl
