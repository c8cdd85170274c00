-- Which texts a run has.
use Rattle.std.specs.Prelude.{ℕ, ◌≡◌, ◌≤◌, Bool, true, false, List, ◌++◌, length, Option, Some, None}
use Rattle.pending_text.specs.Outs.{OutText}
use Rattle.dta_model.specs.LinkTimes.{time_at}
use Rattle.gap.specs.declared.line.GapLine.{GapLine}
use Rattle.route_flows.specs.Averages.{AreSince}
use Rattle.skims.specs.GivenTimes.{table_given}
use Rattle.skims.specs.Skim.{IsSkim}
use Rattle.skims.specs.Texts.{skim_texts}
use Rattle.skims.specs.declared.skim_entry.SkimEntry.{SkimEntry}
use Rattle.audit.specs.Audit.{IsAudit}
use Rattle.audit.specs.declared.verdict.Verdict.{Verdict}
use Rattle.audit.specs.declared.verdict.Verdict.TheVariants as verdict
use Rattle.assignment.specs.Assignment.{Traffic, VehicleRoutes, costs_of}
use Rattle.assignment.specs.Iterations.{AllIterations, AreIterations}
use Rattle.sweep.specs.Scenarios.{AreScenarios}
use Rattle.sweep.specs.Texts.{sweep_texts}
use Rattle.sweep.specs.declared.scenario.Scenario.{Scenario}
use Rattle.dta_words.specs.declared.command.Settings.{Settings}
use Rattle.jobs.specs.Jobs.{JobRows}
use Rattle.commands.specs.Texts.{AreWatchTexts, last_texts, audit_plan, audit_texts}

-- the iterations in which the vehicles took their last routes, which are told exactly where a
-- start table is asked for
abbrev pub AreSinceTold : (start : Bool) → Settings → Traffic → Option (List ℕ) → Type 0
AreSinceTold false s traffic since = since ≡ None
AreSinceTold true s traffic None = ⊥
AreSinceTold true s traffic (Some numbers) =
    AreSince s.costs traffic.net traffic.start traffic.trips s.iterations numbers

-- the texts of `skim`: the least times between all zones, by the table of link times
pub record AreSkimmed (s : Settings) (job : JobRows) (texts : List OutText) : Type 0 where
  pub entries : List SkimEntry
  pub skim : IsSkim (time_at (table_given job.net s.bucket s.horizon job.times)) job.net s.starts
      entries
  pub texts_are : texts ≡ skim_texts job.net entries

-- the texts of `sweep`: the assignments for the multiples of the demand
pub record AreSwept (s : Settings) (job : JobRows) (texts : List OutText) : Type 0 where
  pub scenarios : List Scenario
  pub sweep : AreScenarios s job.net job.demand_cells s.scales scenarios
  pub texts_are : texts ≡ sweep_texts scenarios

-- the verdict on the agents and the link times of a job
abbrev pub IsAudited : Settings → JobRows → Verdict → Type 0
IsAudited s job v = IsAudit job.net job.trips job.agents job.times (audit_plan s) v

-- the texts of `audit` where no check fails
pub record AreAudited (s : Settings) (job : JobRows) (texts : List OutText) : Type 0 where
  pub passes : IsAudited s job verdict.Yes
  pub texts_are : texts ≡ audit_texts job

-- the texts of a whole assignment, which are the watch lines of its iterations and then those
-- after the last
pub record AreAssigned (s : Settings) (traffic : Traffic) (texts : List OutText) : Type 0 where
  pub all : AllIterations s.iterations (costs_of s traffic) traffic
  pub since : Option (List ℕ)
  pub since_told : AreSinceTold s.start s traffic since
  pub watched : List OutText
  pub watch_lines : AreWatchTexts s traffic 1 all.routes watched
  pub texts_are : texts
      ≡ watched ++ last_texts s.command s traffic all.last since all.lines all.line

-- the watch lines of the first iterations
pub record AreWatched (s : Settings) (traffic : Traffic) (texts : List OutText) : Type 0 where
  pub routes : List VehicleRoutes
  pub lines : List GapLine
  pub iterations : AreIterations s traffic routes lines
  pub few : length routes ≤ s.iterations
  pub watch_lines : AreWatchTexts s traffic 1 routes texts
