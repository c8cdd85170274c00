-- The scenarios of a sweep: the assignment for each multiple of the demand.
use Rattle.std.specs.Prelude.{ℕ, ◌≡◌, List}
use Rattle.std.specs.List.{AllZip}
use Rattle.net_core.specs.declared.rows.NetRows.{NetRows}
use Rattle.dta_model.specs.Loading.{journeys_of}
use Rattle.dta_model.specs.declared.trip.DemandCell.{DemandCell}
use Rattle.reports.specs.Texts.{agent_text, gap_text, link_time_text, report_text}
use Rattle.dta_words.specs.declared.command.Settings.{Settings}
use Rattle.assignment.specs.Assignment.{Traffic, costs_of, plan_of, summary_of}
use Rattle.assignment.specs.Iterations.{AllIterations}
use Rattle.assignment.specs.Assignment.{times_of, waits_told}
use Rattle.sweep.specs.Texts.{traffic_at, wait_text}
use Rattle.sweep.specs.declared.scenario.Scenario.{Scenario}

-- the texts of an assignment of this traffic, as `assign` puts them
pub record HasTexts (s : Settings) (traffic : Traffic) (it : Scenario) : Type 0 where
  pub all : AllIterations s.iterations (costs_of s traffic) traffic
  pub agent : it.agent
      ≡ agent_text traffic.net traffic.trips all.last (journeys_of (plan_of s traffic all.last))
  pub link_time : it.link_time ≡ link_time_text traffic.net (times_of s traffic all.last)
  pub origin_wait : it.origin_wait ≡ wait_text traffic.net (waits_told s traffic all.last)
  pub gap : it.gap ≡ gap_text all.lines
  pub report : it.report ≡ report_text (summary_of s traffic all.last all.line)

-- the scenario of a scale: its texts depend on no other scale, and on no number of workers
pub record IsScenario (s : Settings) (net : NetRows) (cells : List DemandCell) (scale : ℕ)
    (it : Scenario) : Type 0 where
  pub scale_is : it.scale ≡ scale
  pub texts : HasTexts s (traffic_at net cells scale) it

-- the scenarios of scales, in their order
abbrev pub AreScenarios :
    Settings → NetRows → List DemandCell → List ℕ → List Scenario → Type 0
AreScenarios s net cells scales scenarios = AllZip (IsScenario s net cells) scales scenarios
