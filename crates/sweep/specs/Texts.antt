-- The traffic of a scenario, and the texts of a sweep as functions of what they tell.
use Rattle.std.specs.Prelude.{ℕ, List, [], ◌∷◌, ◌++◌, length, Option, None, Some, codes, decimal}
use Rattle.std.specs.List.{enumerate_from, flat_map}
use Rattle.desk_io.specs.declared.desk.Output.TheVariants as output
use Rattle.pending_text.specs.Outs.{OutText, text_to}
use Rattle.net_core.specs.declared.rows.NetRows.{NetRows}
use Rattle.dta_model.specs.declared.trip.DemandCell.{DemandCell}
use Rattle.trip_costs.specs.OriginWaits.{WaitTable}
use Rattle.reports.specs.Texts.{origin_wait_text}
use Rattle.assignment.specs.Assignment.{Traffic}
use Rattle.scaled_demand.specs.Scales.{trips_at}
use Rattle.sweep.specs.declared.scenario.Scenario.{Scenario}

-- the traffic of a scenario: the trips of the demand times its scale, without a start table
abbrev pub traffic_at : NetRows → List DemandCell → ℕ → Traffic
traffic_at net cells scale = record { net = net; trips = trips_at scale cells; start = [] }

-- the text of the waits at origins, where these are told
abbrev pub wait_text : NetRows → Option WaitTable → List ℕ
wait_text net None = []
wait_text net (Some waits) = origin_wait_text net waits

-- the line before a scenario's texts: its place and its scale in thousandths
unfoldable pub scenario_line : ℕ → ℕ → List ℕ
scenario_line place scale =
    codes "scenario " ++ decimal place ++ codes " scale " ++ decimal scale ++ codes "\n"

-- the texts of a scenario, one after the other
unfoldable pub tables_of : Scenario → List ℕ
tables_of it = it.agent ++ it.link_time ++ it.origin_wait ++ it.gap ++ it.report

-- a scenario: its line, and then its texts
unfoldable pub scenario_text : ℕ → Scenario → List ℕ
scenario_text place it = scenario_line place it.scale ++ tables_of it

-- the text of a scenario with its place
abbrev pub numbered_text : ℕ × Scenario → List ℕ
numbered_text numbered = scenario_text numbered.0 numbered.1

-- Sweep: the scenarios one after the other, from 0
unfoldable pub sweep_text : List Scenario → List ℕ
sweep_text scenarios = flat_map numbered_text (enumerate_from 0 scenarios)

-- Report: how many scenarios there are
unfoldable pub sweep_report_line : ℕ → List ℕ
sweep_report_line scenarios = codes "scenarios " ++ decimal scenarios ++ codes "\n"

-- both, Sweep first
abbrev pub sweep_texts : List Scenario → List OutText
sweep_texts scenarios =
    text_to output.Sweep (sweep_text scenarios)
    ∷ text_to output.Report (sweep_report_line (length scenarios)) ∷ []
