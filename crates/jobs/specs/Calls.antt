-- What a call that reads tables does to the desk, in one record each.
use Rattle.std.specs.Prelude.{◌≡◌, ◌≤◌, ℕ, List, length, Option, Result, IfOk, IfErr}
use Rattle.std.proofs.Common.{Vec}
use Rattle.std.specs.declared.alloc.Global.{Global}
use Rattle.desk_io.specs.declared.desk.Table.{Table}
use Rattle.desk_io.specs.Transfers.{IsRead}
use Rattle.net_core.specs.declared.rows.TurnRow.{TurnRow}
use Rattle.dta_model.specs.declared.trip.DemandCell.{DemandCell}
use Rattle.gmns_tables.specs.Net.{listed_turns}
use Rattle.gmns_tables.specs.declared.with_windows.WithWindows.{WithWindows}
use Rattle.start_table.specs.declared.rows.StartRow.{StartRow}
use Rattle.desk_io.specs.declared.transfers.TheConstants.{MOST_TABLE_BYTES}
use Rattle.dta_words.specs.declared.command.Settings.{Settings}
use Rattle.desk_io.specs.State.{DeskState}
use Rattle.jobs.specs.TableRows.{TableRows, road_rows}
use Rattle.jobs.specs.Reading.{ReadState, reads_at}
use Rattle.jobs.specs.Stops.{StopsAmong, StopsAt}
use Rattle.jobs.specs.Tables.{AreAccepted, IsAccepted}
use Rattle.jobs.specs.declared.stop.Stop.{Stop}
use Rattle.jobs.specs.declared.tables.Roads.{Roads}
use Rattle.jobs.specs.declared.tables.NetworkTables.{NetworkTables}
use Rattle.jobs.specs.declared.tables.Tables.{Tables}
use Rattle.skims.specs.declared.time_rows.TimeRow.{TimeRow}
use Rattle.agent_table.specs.declared.rows.AgentRow.{AgentRow}

-- a call that reads tables and does nothing else to a desk: what it gives where it is done, and
-- where and why it stops
pub record OnlyReads {T : Type 0} (Done : T → ReadState → ReadState → Type 0)
    (Stopped : Stop → ReadState → ReadState → Type 0) (before after : DeskState)
    (result : Result T Stop) : Type 0 where
  pub done : IfOk result (λ x. Done x (reads_at before) (reads_at after))
  pub stops : IfErr result (λ stop. Stopped stop (reads_at before) (reads_at after))
  pub later : before.read_faults ≤ after.read_faults
  pub taken : after.taken ≡ before.taken
  pub puts : after.put_faults ≡ before.put_faults

-- a table was read to its end, and has no more bytes than the limit
pub record IsWhole (t : Table) (bytes : Vec ℕ Global) (before after : ReadState) : Type 0 where
  pub read : IsRead t bytes.items before.left after.left
  pub short : length bytes.items ≤ MOST_TABLE_BYTES

-- a call that reads and checks a table after these rows: it gives the rows with that table's, or
-- stopped at that table
abbrev pub Accepts :
    {T : Type 0} → Settings → Table → TableRows → (T → TableRows) → DeskState → DeskState
    → Result T Stop → Type 0
Accepts settings t rows more before after result =
    OnlyReads (λ x from rest. IsAccepted settings t rows (more x) from.left rest.left)
    (StopsAt settings t rows) before after result

-- a call that reads and checks tables, one after the other: it gives their rows, or stopped at one
abbrev pub AcceptsAll :
    {T : Type 0} → Settings → List Table → TableRows → (T → TableRows) → DeskState → DeskState
    → Result T Stop → Type 0
AcceptsAll settings tables rows more before after result =
    OnlyReads (λ x from rest. AreAccepted settings tables rows (more x) from.left rest.left)
    (StopsAmong settings tables rows) before after result

-- the rows of nodes and links, those with turns, rows with those of a demand table, of a start
-- table, of link times and of an agent table, and those that each loading has
abbrev pub rows_in_roads : Roads → TableRows
rows_in_roads roads = road_rows roads.nodes roads.links

abbrev pub rows_with_turns : Roads → Option (List (WithWindows TurnRow)) → TableRows
rows_with_turns roads turns = record (rows_in_roads roads) { turns = listed_turns turns }

abbrev pub with_demand_cells : TableRows → Vec DemandCell Global → TableRows
with_demand_cells rows demand_cells = record rows { demand_cells = demand_cells.items }

abbrev pub with_start_rows : TableRows → List StartRow → TableRows
with_start_rows rows start = record rows { start = start }

abbrev pub with_time_rows : TableRows → List TimeRow → TableRows
with_time_rows rows times = record rows { times = times }

abbrev pub with_agent_rows : TableRows → List AgentRow → TableRows
with_agent_rows rows agents = record rows { agents = agents }

abbrev pub rows_in_network : NetworkTables → TableRows
rows_in_network t = rows_with_turns t.roads t.turns

abbrev pub rows_in_tables : Tables → TableRows
rows_in_tables t = with_demand_cells (rows_in_network t.network) t.demand_cells
