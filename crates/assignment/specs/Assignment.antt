-- What an assignment is of: its traffic, and over routes their loading, its costs, and the numbers
-- of a report.
use Rattle.std.specs.Prelude.{ℕ, List, count_by, is_none, length, Option, None, Some}
use Rattle.net_core.specs.declared.rows.LinkNo.{LinkNo}
use Rattle.net_core.specs.declared.rows.NetRows.{NetRows}
use Rattle.dta_model.specs.LinkTimes.{TimeTable, table_of}
use Rattle.dta_model.specs.State.{eight_after}
use Rattle.dta_model.specs.declared.eight.Eight.{Eight}
use Rattle.dta_model.specs.declared.plan.Plan.{Plan}
use Rattle.dta_model.specs.declared.trip.Trip.{Trip}
use Rattle.trip_costs.specs.LoadingCosts.{costs_by}
use Rattle.trip_costs.specs.OriginWaits.{WaitTable, waits_of as waits_of_plan}
use Rattle.trip_costs.specs.Timings.{Timing}
use Rattle.trip_costs.specs.declared.loading_costs.Costs.{Costs}
use Rattle.trip_costs.specs.declared.loading_costs.Costs.TheVariants as by
use Rattle.gap.specs.declared.line.GapLine.{GapLine}
use Rattle.start_table.specs.declared.rows.StartRow.{StartRow}
use Rattle.reports.specs.declared.summary.Summary.{Summary}
use Rattle.dta_words.specs.declared.command.Settings.{Settings}

-- what is assigned: a network, the trips over it, and the rows of a start table
pub record Traffic : Type 0 where
  pub net : NetRows
  pub trips : List Trip
  pub start : List StartRow

-- a route for each vehicle that has one
abbrev pub VehicleRoutes : Type 0
VehicleRoutes = List (Option (List LinkNo))

-- the loading of traffic over the routes of its vehicles
abbrev pub plan_of : Settings → Traffic → VehicleRoutes → Plan
plan_of s traffic routes = record {
  net = traffic.net;
  queue = s.queue;
  delta = s.units.delta;
  horizon = s.horizon;
  trips = traffic.trips;
  routes = routes;
}

-- the link times of the loading over these routes
abbrev pub times_of : Settings → Traffic → VehicleRoutes → TimeTable
times_of s traffic routes = table_of (plan_of s traffic routes) s.bucket

-- the costs by which the walks of an iteration are timed: its link times, or whole trips over them
-- and over the waits at origins
abbrev pub costs_of : Settings → Traffic → VehicleRoutes → Timing
costs_of s traffic routes = costs_by s.costs (plan_of s traffic routes) s.bucket

-- the waits at origins of that loading, which are told where the costs are of whole trips
abbrev pub waits_of : Settings → Traffic → VehicleRoutes → WaitTable
waits_of s traffic routes = waits_of_plan (plan_of s traffic routes) s.bucket

abbrev pub told_where : Costs → WaitTable → Option WaitTable
told_where by.Links w = None
told_where by.Trips w = Some w

abbrev pub waits_told : Settings → Traffic → VehicleRoutes → Option WaitTable
waits_told s traffic routes = told_where s.costs (waits_of s traffic routes)

-- the state after the last step of that loading
abbrev pub end_of : Settings → Traffic → VehicleRoutes → Eight
end_of s traffic routes = eight_after (plan_of s traffic routes) s.horizon

-- how many vehicles have no route
abbrev pub unrouted : VehicleRoutes → ℕ
unrouted routes = count_by is_none routes

-- the numbers of a report: those of the last iteration, over its routes and its gap
abbrev pub summary_of : Settings → Traffic → VehicleRoutes → GapLine → Summary
summary_of s traffic last line = record {
  nodes = length traffic.net.nodes;
  links = length traffic.net.links;
  vehicles = length traffic.trips;
  unrouted = unrouted last;
  iterations = s.iterations;
  arrived = (end_of s traffic last).arrived;
  running = (end_of s traffic last).running;
  waiting = (end_of s traffic last).waiting;
  gap = line;
}
