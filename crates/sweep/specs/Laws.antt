-- What is true of every scenario.
use Rattle.std.specs.Prelude.{ℕ, ◌≡◌, List}
use Rattle.net_core.specs.declared.rows.NetRows.{NetRows}
use Rattle.dta_model.specs.declared.trip.DemandCell.{DemandCell}
use Rattle.dta_words.specs.declared.command.Settings.{Settings}
use Rattle.sweep.specs.Scenarios.{IsScenario}
use Rattle.sweep.specs.declared.scenario.Scenario.{Scenario}

-- settings agree on all that a scenario depends on. Workers, scales, the command and the
-- period may differ: the demand has its windows
pub record Agree (a b : Settings) : Type 0 where
  pub step : a.units.delta ≡ b.units.delta
  pub horizon : a.horizon ≡ b.horizon
  pub iterations : a.iterations ≡ b.iterations
  pub bucket : a.bucket ≡ b.bucket
  pub queue : a.queue ≡ b.queue
  pub costs : a.costs ≡ b.costs

-- a scale of the demand over a network has one scenario
abbrev pub ScenariosStandAlone : Type 0
ScenariosStandAlone =
    (a b : Settings) (net : NetRows) (cells : List DemandCell) (scale : ℕ) (x y : Scenario)
    → Agree a b → IsScenario a net cells scale x → IsScenario b net cells scale y → x ≡ y
