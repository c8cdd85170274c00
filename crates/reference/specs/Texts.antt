-- The texts of a run by its command, the watch lines before them, and its loadings.
use Rattle.std.specs.Prelude.{ℕ, ◌≡◌, ⊤, All, List, [], ◌++◌}
use Rattle.sweep.specs.Texts.{sweep_texts, traffic_at}
use Rattle.skims.specs.Texts.{skim_texts}
use Rattle.reports.specs.Texts.{free_texts}
use Rattle.pending_text.specs.Outs.{OutText}
use Rattle.audit.specs.Audit.{loading_of}
use Rattle.dta_words.specs.declared.command.Settings.{Settings}
use Rattle.assignment.specs.Assignment.{Traffic, plan_of}
use Rattle.assignment.specs.Traffic.{IsSoundLoading}
use Rattle.jobs.specs.Inputs.{Assigning, Auditing, FreeFlow, Kind, Skimming, Sweeping, kind_of}
use Rattle.jobs.specs.Jobs.{JobRows, traffic_of}
use Rattle.commands.specs.Texts.{AreWatchTexts, audit_plan, audit_texts}
use Rattle.reference.specs.Audits.{Passes}
use Rattle.reference.specs.Reference.{assigned_texts, routes_until}
use Rattle.reference.specs.Skims.{entries_of}
use Rattle.reference.specs.Sweeps.{scenarios_of}

-- the texts but watch lines; those of an audit are what it puts where its verdict is yes
abbrev pub texts_by : Kind → Settings → JobRows → List OutText
texts_by FreeFlow s job = free_texts job.net
texts_by Assigning s job = assigned_texts s (traffic_of job)
texts_by Skimming s job = skim_texts job.net (entries_of s job)
texts_by Sweeping s job = sweep_texts (scenarios_of s job)
texts_by Auditing s job = audit_texts job

abbrev pub texts_of : Settings → JobRows → List OutText
texts_of s job = texts_by (kind_of s.command) s job

-- the watch lines before them, by their rule: of an assignment those of its first iterations, so
-- many, and of other work none
abbrev pub AreWatchLinesBy : Kind → Settings → JobRows → (iterations : ℕ) → List OutText → Type 0
AreWatchLinesBy Assigning s job iterations watched =
    AreWatchTexts s (traffic_of job) 1 (routes_until s (traffic_of job) iterations) watched
AreWatchLinesBy _ s job iterations watched = watched ≡ []

abbrev pub AreWatchLinesOf : Settings → JobRows → (iterations : ℕ) → List OutText → Type 0
AreWatchLinesOf s job iterations watched =
    AreWatchLinesBy (kind_of s.command) s job iterations watched

-- watch lines of a job and then its texts, of which this holds; an audit has them where it passes
pub record HasItsTexts (s : Settings) (job : JobRows) (Holds : List OutText → Type 0) : Type 0 where
  pub watched : List OutText
  pub by_rule : AreWatchLinesOf s job s.iterations watched
  pub passes : Passes s job
  pub holds : Holds (watched ++ texts_of s job)

-- the loading of each iteration of an assignment is sound
abbrev pub AreSoundlyLoaded : Settings → Traffic → Type 0
AreSoundlyLoaded s traffic =
    All (λ routes. IsSoundLoading (plan_of s traffic routes)) (routes_until s traffic s.iterations)

-- each loading of the work over a job is: of a sweep those for each scale, and of an audit that
-- which it checks, where no check fails
abbrev pub HasSoundLoadingsBy : Kind → Settings → JobRows → Type 0
HasSoundLoadingsBy Assigning s job = AreSoundlyLoaded s (traffic_of job)
HasSoundLoadingsBy Sweeping s job =
    All (λ scale. AreSoundlyLoaded s (traffic_at job.net job.demand_cells scale)) s.scales
HasSoundLoadingsBy Auditing s job =
    Passes s job → IsSoundLoading (loading_of job.net job.trips job.agents (audit_plan s))
HasSoundLoadingsBy _ s job = ⊤

abbrev pub HasSoundLoadings : Settings → JobRows → Type 0
HasSoundLoadings s job = HasSoundLoadingsBy (kind_of s.command) s job
