-- The tables that commands read, and the rows that they give.
use Rattle.std.specs.Prelude.{Bool, true, false, List, [], ◌∷◌, ◌++◌}
use Rattle.desk_io.specs.declared.desk.Table.{Table}
use Rattle.desk_io.specs.declared.desk.Table.TheVariants as table
use Rattle.net_core.specs.declared.rows.LinkRow.{LinkRow}
use Rattle.net_core.specs.declared.rows.NetRows.{NetRows}
use Rattle.net_core.specs.declared.rows.NodeRow.{NodeRow}
use Rattle.net_core.specs.declared.rows.TurnRow.{TurnRow}
use Rattle.dta_model.specs.declared.trip.DemandCell.{DemandCell}
use Rattle.gmns_tables.specs.Net.{net_rows}
use Rattle.gmns_tables.specs.declared.with_windows.WithWindows.{WithWindows}
use Rattle.start_table.specs.declared.rows.StartRow.{StartRow}
use Rattle.agent_table.specs.declared.rows.AgentRow.{AgentRow}
use Rattle.skims.specs.declared.time_rows.TimeRow.{TimeRow}

-- the tables of a network's nodes and links, those of a network with its turns, and those that
-- each assignment has, in the order in which they are read
abbrev pub road_tables : List Table
road_tables = table.Node ∷ table.Link ∷ []

abbrev pub network_tables : List Table
network_tables = table.Node ∷ table.Link ∷ table.Movement ∷ []

abbrev pub all_tables : List Table
all_tables = table.Node ∷ table.Link ∷ table.Movement ∷ table.Demand ∷ []

-- the start table, an earlier agent table, where it is asked for
abbrev pub start_tables : (start : Bool) → List Table
start_tables false = []
start_tables true = table.Start ∷ []

-- the tables of an assignment, with the start table where it is asked for
abbrev pub loading_tables : (start : Bool) → List Table
loading_tables start = all_tables ++ start_tables start

-- the tables of a skim: those of its network, and link times
abbrev pub skim_tables : List Table
skim_tables = table.Node ∷ table.Link ∷ table.Movement ∷ table.Times ∷ []

-- the tables of an audit: those of an assignment, the agent table and the link times that are
-- audited
abbrev pub audit_tables : List Table
audit_tables = all_tables ++ table.Start ∷ table.Times ∷ []

-- the rows of the tables that were accepted so far; those of the others are missing. Links and
-- turns stand with the windows of their capacities
pub record TableRows : Type 0 where
  pub nodes : List NodeRow
  pub links : List (WithWindows LinkRow)
  pub turns : List (WithWindows TurnRow)
  pub demand_cells : List DemandCell
  pub start : List StartRow
  pub times : List TimeRow
  pub agents : List AgentRow

abbrev pub no_rows : TableRows
no_rows = record {
  nodes = [];
  links = [];
  turns = [];
  demand_cells = [];
  start = [];
  times = [];
  agents = [];
}

-- the rows of a node and a link table
abbrev pub road_rows : List NodeRow → List (WithWindows LinkRow) → TableRows
road_rows nodes links = record no_rows { nodes = nodes; links = links }

-- the network of these rows, with its windows
abbrev pub net_of : TableRows → NetRows
net_of rows = net_rows rows.nodes rows.links rows.turns
