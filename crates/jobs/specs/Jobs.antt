-- What the settings and the tables come to: the network and the trips of a run.
use Rattle.std.specs.Prelude.{◌≡◌, ◌≤◌, ◌*◌, List, length}
use Rattle.net_core.specs.Network.{IsNet}
use Rattle.net_core.specs.declared.rows.NetRows.{NetRows}
use Rattle.dta_model.specs.Release.{trips_of}
use Rattle.dta_model.specs.declared.trip.DemandCell.{DemandCell}
use Rattle.dta_model.specs.declared.trip.Trip.{Trip}
use Rattle.demand.specs.DemandRows.{AreDemandCells}
use Rattle.dta_words.specs.declared.command.Settings.{Settings}
use Rattle.skims.specs.GivenTimes.{AreRowsOf}
use Rattle.skims.specs.declared.time_rows.TimeRow.{TimeRow}
use Rattle.reports.specs.declared.refusal.TheConstants.{MOST_SWEEP_LINK_STEPS}
use Rattle.assignment.specs.Assignment.{Traffic}
use Rattle.scaled_demand.specs.Scales.{AreAllWithin}
use Rattle.assignment.specs.Traffic.{AreTripsBelow}
use Rattle.agent_table.specs.declared.rows.AgentRow.{AgentRow}
use Rattle.start_table.specs.Starts.{AreStartRows}
use Rattle.start_table.specs.declared.rows.StartRow.{StartRow}
use Rattle.jobs.specs.TableRows.{TableRows, net_of, no_rows}
use Rattle.jobs.specs.Inputs.{Sweeping, TakesTimes, inputs_of, kind_of, limits_of, tables_of}
use Rattle.jobs.specs.Reading.{ReadState}
use Rattle.jobs.specs.Tables.{AreAccepted}

-- the network of a run, its trips, the rows of its start table, its link times, the demand of a
-- sweep and the agents of an audit; what a command doesn't take is empty
pub record JobRows : Type 0 where
  pub net : NetRows
  pub trips : List Trip
  pub start : List StartRow
  pub times : List TimeRow
  pub demand_cells : List DemandCell
  pub agents : List AgentRow

abbrev pub job_of : Settings → TableRows → JobRows
job_of s rows = record {
  net = net_of rows;
  trips = trips_of ((inputs_of s.command).released rows.demand_cells);
  start = rows.start;
  times = rows.times;
  demand_cells = (inputs_of s.command).swept rows.demand_cells;
  agents = rows.agents;
}

-- the tables were read one after the other and accepted, are within the limits, and make this job
pub record IsJobOf (s : Settings) (job : JobRows) (before after : ReadState) : Type 0 where
  pub rows : TableRows
  pub read : AreAccepted s (tables_of s.command s.start) no_rows rows before.left after.left
  pub within : (limits_of s.command).within s rows
  pub makes : job ≡ job_of s rows

-- what is true of the job of a sweep: its demand is that of a table, its network times its steps
-- is not too much, and no scenario has too many vehicles
pub record IsSweepJob (s : Settings) (job : JobRows) : Type 0 where
  pub cells : AreDemandCells s.period job.demand_cells
  pub few : length job.net.links * s.horizon ≤ MOST_SWEEP_LINK_STEPS
  pub within : AreAllWithin job.demand_cells s.scales

-- what is true of every job: its rows make a network, its trips depart below the horizon, the rows
-- of its start table are of different agents, and where link times are read there are those of
-- each bucket of each link
pub record IsJob (s : Settings) (job : JobRows) : Type 0 where
  pub net : IsNet job.net
  pub trips : AreTripsBelow s.horizon job.trips
  pub start : AreStartRows job.start
  pub times : TakesTimes s.command → AreRowsOf job.net s.bucket s.horizon job.times
  pub sweep : kind_of s.command ≡ Sweeping → IsSweepJob s job

-- what is assigned of a job
abbrev pub traffic_of : JobRows → Traffic
traffic_of job = record { net = job.net; trips = job.trips; start = job.start }
