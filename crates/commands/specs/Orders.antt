-- Assignments whose loadings take the nodes of a step in another order.
use Rattle.std.specs.Prelude.{ℕ, ◌≡◌, ◌+◌, List, [], ◌∷◌, ◌++◌, Option}
use Rattle.pending_text.specs.Outs.{OutText}
use Rattle.dta_model.specs.LinkTimes.{TimeTable, table_in}
use Rattle.dta_model.specs.Loading.{journeys_in}
use Rattle.dta_model.specs.Orders.{AreOrders, trace_in}
use Rattle.dta_model.specs.State.{eight_in}
use Rattle.dta_model.specs.Trace.{Move}
use Rattle.dta_model.specs.declared.eight.Eight.{Eight}
use Rattle.dta_model.specs.declared.loaded.Journey.{Journey}
use Rattle.trip_costs.specs.LoadingCosts.{costs_over}
use Rattle.trip_costs.specs.OriginWaits.{WaitTable, waits_in}
use Rattle.trip_costs.specs.Timings.{Timing}
use Rattle.gap.specs.declared.line.GapLine.{GapLine}
use Rattle.reports.specs.declared.summary.Summary.{Summary}
use Rattle.dta_words.specs.declared.command.Settings.{Settings}
use Rattle.assignment.specs.Assignment.{Traffic, VehicleRoutes, plan_of, summary_of, told_where}
use Rattle.assignment.specs.Iterations.{AllIterations}
use Rattle.counts.specs.Through.{through_counts_in}
use Rattle.counts.specs.Turns.{turn_counts_in}
use Rattle.commands.specs.Outputs.{AreSinceTold}
use Rattle.commands.specs.Texts.{LastLoading, counts_out, end_lines, texts_told}

-- for the loading over each routes an order of the nodes, for each of its steps
abbrev pub NodeOrders : Type 0
NodeOrders = VehicleRoutes → ℕ → List ℕ

-- each takes all nodes
abbrev pub AreNodeOrders : Settings → Traffic → NodeOrders → Type 0
AreNodeOrders s traffic order =
    (routes : VehicleRoutes) → AreOrders (plan_of s traffic routes) (order routes)

-- the trace of the loading over routes that takes the nodes so
abbrev pub trace_by : Settings → Traffic → NodeOrders → VehicleRoutes → List Move
trace_by s traffic order routes = trace_in (plan_of s traffic routes) (order routes) s.horizon

-- its journeys, its link times, its waits at origins, its costs and its last state
abbrev pub journeys_by : Settings → Traffic → NodeOrders → VehicleRoutes → List Journey
journeys_by s traffic order routes =
    journeys_in (plan_of s traffic routes) (trace_by s traffic order routes)

abbrev pub times_by : Settings → Traffic → NodeOrders → VehicleRoutes → TimeTable
times_by s traffic order routes =
    table_in (plan_of s traffic routes) s.bucket (trace_by s traffic order routes)

abbrev pub waits_by : Settings → Traffic → NodeOrders → VehicleRoutes → WaitTable
waits_by s traffic order routes =
    waits_in (plan_of s traffic routes) s.bucket (journeys_by s traffic order routes)

abbrev pub costs_by : Settings → Traffic → NodeOrders → VehicleRoutes → Timing
costs_by s traffic order routes =
    costs_over s.costs (times_by s traffic order routes) (waits_by s traffic order routes)

abbrev pub end_by : Settings → Traffic → NodeOrders → VehicleRoutes → Eight
end_by s traffic order routes =
    eight_in (plan_of s traffic routes) s.horizon (trace_by s traffic order routes)

-- the numbers of a report over that last state
abbrev pub summary_by : Settings → Traffic → NodeOrders → VehicleRoutes → GapLine → Summary
summary_by s traffic order last line = record (summary_of s traffic last line) {
  arrived = (end_by s traffic order last).arrived;
  running = (end_by s traffic order last).running;
  waiting = (end_by s traffic order last).waiting;
}

-- its counts
abbrev pub counts_by : Settings → Traffic → NodeOrders → VehicleRoutes → OutText
counts_by s traffic order routes =
    let loading = plan_of s traffic routes in
    let trace = trace_by s traffic order routes in
    counts_out s traffic (turn_counts_in loading s.bucket trace)
    (λ link. through_counts_in loading link trace)

-- what the texts after the last iteration tell of that loading
abbrev pub told_by : Settings → Traffic → NodeOrders → VehicleRoutes → GapLine → LastLoading
told_by s traffic order last line = record {
  journeys = journeys_by s traffic order last;
  times = times_by s traffic order last;
  waits = told_where s.costs (waits_by s traffic order last);
  counts = counts_by s traffic order last;
  summary = summary_by s traffic order last line;
}

-- the watch lines of iterations, the first of which has this number, as the plain loader tells
-- them: where there is a watch, that of each last state
abbrev pub watched_by :
    Settings → Traffic → NodeOrders → (number : ℕ) → List VehicleRoutes → List OutText
watched_by s traffic order number [] = []
watched_by s traffic order number (routes ∷ others) =
    end_lines s.watch number (end_by s traffic order routes)
    ++ watched_by s traffic order (number + 1) others

-- the texts of a whole assignment by such loadings, with the watch lines of the plain loader
pub record AreAssignedBy (s : Settings) (traffic : Traffic) (order : NodeOrders)
    (texts : List OutText) : Type 0 where
  pub all : AllIterations s.iterations (costs_by s traffic order) traffic
  pub since : Option (List ℕ)
  pub since_told : AreSinceTold s.start s traffic since
  pub texts_are : texts
      ≡ watched_by s traffic order 1 all.routes
      ++ texts_told s.command traffic all.last (told_by s traffic order all.last all.line) since
      all.lines
