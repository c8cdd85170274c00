-- What is true of every assignment.
use Rattle.std.specs.Prelude.{ℕ, ◌≡◌, Bool, List, [], ◌∷◌, ◌++◌, false, true}
use Rattle.pending_text.specs.Outs.{OutText, text_to}
use Rattle.desk_io.specs.declared.desk.Output.TheVariants as output
use Rattle.trip_costs.specs.declared.loading_costs.Costs.{Costs}
use Rattle.trip_costs.specs.declared.loading_costs.Costs.TheVariants as by
use Rattle.audit.specs.declared.verdict.Verdict.{Verdict}
use Rattle.assignment.specs.Assignment.{Traffic}
use Rattle.sweep.specs.Scenarios.{IsScenario}
use Rattle.sweep.specs.Texts.{traffic_at}
use Rattle.sweep.specs.declared.scenario.Scenario.{Scenario}
use Rattle.dta_words.specs.declared.command.Command.TheVariants as command
use Rattle.dta_words.specs.declared.command.Settings.{Settings}
use Rattle.jobs.specs.Jobs.{JobRows}
use Rattle.commands.specs.Orders.{AreAssignedBy, AreNodeOrders, NodeOrders}
use Rattle.commands.specs.Outputs.{AreAssigned, IsAudited}
use Rattle.commands.specs.Works.{AreTexts}
use Rattle.commands.specs.Texts.{but_watch}

-- two lists of texts of a job are the same but for Watch, and where the loader is plain altogether
pub record AreDetermined (s : Settings) (a b : List OutText) : Type 0 where
  pub but_watch_lines : but_watch a ≡ but_watch b
  pub plain : s.plain ≡ true → a ≡ b

-- settings and a job have one list of texts but for Watch, and where the loader is plain one list
-- of all texts
abbrev pub TextsAreDetermined : Type 0
TextsAreDetermined =
    (s : Settings) (job : JobRows) (a b : List OutText) → AreTexts s.command s job a
    → AreTexts s.command s job b → AreDetermined s a b

-- the settings of an assignment like those of a sweep, alone, by so many workers, with this watch
-- and by either loader
abbrev pub alone : Settings → (workers watch : ℕ) → (plain : Bool) → Settings
alone s workers watch plain = record s {
  command = command.Assign;
  workers = workers;
  watch = watch;
  plain = plain;
  start = false;
  scales = [];
}

-- the waits at origins of a scenario, where its costs are of whole trips
abbrev pub scenario_waits : Costs → Scenario → List OutText
scenario_waits by.Links it = []
scenario_waits by.Trips it = text_to output.OriginWait it.origin_wait ∷ []

-- the texts of a scenario, as an assignment by these costs puts them
abbrev pub scenario_texts : Costs → Scenario → List OutText
scenario_texts costs it =
    text_to output.Agent it.agent ∷ text_to output.LinkTime it.link_time
    ∷ (scenario_waits costs it
    ++ text_to output.Gap it.gap ∷ text_to output.Report it.report ∷ [])

-- a scenario of a sweep has the texts that an assignment over the demand times its scale has
-- alone, whatever the other scales, the workers of either, the watch and the loader
abbrev pub ScenariosAreAlone : Type 0
ScenariosAreAlone =
    (s : Settings) (job : JobRows) (scale workers watch : ℕ) (plain : Bool) (it : Scenario)
    (texts : List OutText) → IsScenario s job.net job.demand_cells scale it
    → AreAssigned (alone s workers watch plain)
    (traffic_at job.net job.demand_cells scale) texts
    → but_watch texts ≡ scenario_texts s.costs it

-- an audit of a job has one verdict
abbrev pub AuditsAreDetermined : Type 0
AuditsAreDetermined =
    (s : Settings) (job : JobRows) (v w : Verdict) → IsAudited s job v → IsAudited s job w → v ≡ w

-- the nodes of a step may be taken in any order: the texts but for Watch are those of the job, and
-- where the loader is plain all texts are
abbrev pub TextsInAnyOrder : Type 0
TextsInAnyOrder =
    (s : Settings) (traffic : Traffic) (order : NodeOrders) → AreNodeOrders s traffic order
    → (a b : List OutText) → AreAssignedBy s traffic order a → AreAssigned s traffic b
    → AreDetermined s a b

-- settings and a job have one list of texts, one verdict of an audit, and scenarios that stand
-- alone
pub record OneListOfTexts : Type 0 where
  pub determined : TextsAreDetermined
  pub any_order : TextsInAnyOrder
  pub swept_alone : ScenariosAreAlone
  pub audited : AuditsAreDetermined
