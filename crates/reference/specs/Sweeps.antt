-- The scenarios of a sweep: the assignment for each multiple of the demand.
use Rattle.std.specs.Prelude.{ℕ, ◌-◌, List, map}
use Rattle.dta_model.specs.Loading.{journeys_of}
use Rattle.reports.specs.Texts.{agent_text, gap_text, link_time_text, report_text}
use Rattle.dta_words.specs.declared.command.Settings.{Settings}
use Rattle.assignment.specs.Assignment.{Traffic, VehicleRoutes, plan_of, summary_of, times_of}
use Rattle.assignment.specs.Assignment.{waits_told}
use Rattle.sweep.specs.Texts.{traffic_at, wait_text}
use Rattle.sweep.specs.declared.scenario.Scenario.{Scenario}
use Rattle.jobs.specs.Jobs.{JobRows}
use Rattle.reference.specs.Reference.{all_gaps, gap_at, routes_at}

-- the routes of the last iteration
abbrev pub last_routes : Settings → Traffic → VehicleRoutes
last_routes s traffic = routes_at s traffic (s.iterations - 1)

-- the scenario of a scale, over its traffic
abbrev pub scenario_over : Settings → (scale : ℕ) → Traffic → Scenario
scenario_over s scale traffic = record {
  scale = scale;
  agent = agent_text traffic.net traffic.trips (last_routes s traffic)
      (journeys_of (plan_of s traffic (last_routes s traffic)));
  link_time = link_time_text traffic.net (times_of s traffic (last_routes s traffic));
  origin_wait = wait_text traffic.net (waits_told s traffic (last_routes s traffic));
  gap = gap_text (all_gaps s traffic);
  report = report_text (summary_of s traffic (last_routes s traffic)
      (gap_at s traffic (s.iterations - 1)));
}

-- the scenarios of a job's sweep
unfoldable pub scenarios_of : Settings → JobRows → List Scenario
scenarios_of s job =
    map (λ scale. scenario_over s scale (traffic_at job.net job.demand_cells scale)) s.scales
