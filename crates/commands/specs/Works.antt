-- What the work over an accepted job put, by the status with which it ended.
use Rattle.std.specs.Prelude.{◌≡◌, ◌⊎◌, ⊤, List, []}
use Rattle.dta_words.specs.declared.command.Command.{Command}
use Rattle.jobs.specs.Inputs.{Assigning, Auditing, FreeFlow, Kind, Skimming, Sweeping, kind_of}
use Rattle.jobs.specs.Jobs.{JobRows, traffic_of}
use Rattle.commands.specs.Outputs.{AreAssigned, AreAudited, AreSkimmed, AreSwept, AreWatched}
use Rattle.commands.specs.Outputs.{IsAudited}
use Rattle.desk_io.specs.declared.desk.Output.TheVariants as output
use Rattle.desk_io.specs.Desk.{Taken}
use Rattle.desk_io.specs.Faults.{Rose}
use Rattle.desk_io.specs.State.{DeskState}
use Rattle.desk_io.specs.Transfers.{IsOut}
use Rattle.pending_text.specs.Outs.{OutText, SomeCutOff, SomeOut}
use Rattle.audit.specs.declared.verdict.Verdict.TheVariants as verdict
use Rattle.reports.specs.Texts.{differs_line, free_texts}
use Rattle.reports.specs.declared.audited.Place.{Place}
use Rattle.dta_words.specs.declared.command.Settings.{Settings}
use Rattle.commands.specs.declared.status.Status.{Status}
use Rattle.commands.specs.declared.status.Status.TheVariants as status

-- what a command puts over a job: the texts of its whole work, those of its work as far as it came,
-- and those before its outputs
pub record CommandWork : Type 1 where
  pub texts : Settings → JobRows → List OutText → Type 0
  pub so_far : Settings → JobRows → List OutText → Type 0
  pub watched : Settings → JobRows → List OutText → Type 0

-- an assignment, which puts watch lines before its outputs
abbrev pub assignment_work : CommandWork
assignment_work = record {
  texts = λ s job texts. AreAssigned s (traffic_of job) texts;
  so_far = λ s job texts.
      AreAssigned s (traffic_of job) texts ⊎ AreWatched s (traffic_of job) texts;
  watched = λ s job texts. AreWatched s (traffic_of job) texts;
}

-- a command that puts nothing before its outputs
abbrev pub unwatched_work : (Settings → JobRows → List OutText → Type 0) → CommandWork
unwatched_work texts = record {
  texts = texts;
  so_far = texts;
  watched = λ s job texts. texts ≡ [];
}

abbrev pub work_by : Kind → CommandWork
work_by FreeFlow = unwatched_work (λ s job texts. texts ≡ free_texts job.net)
work_by Assigning = assignment_work
work_by Skimming = unwatched_work AreSkimmed
work_by Sweeping = unwatched_work AreSwept
work_by Auditing = unwatched_work AreAudited

abbrev pub work_of : Command → CommandWork
work_of c = work_by (kind_of c)

abbrev pub AreTexts : Command → Settings → JobRows → List OutText → Type 0
AreTexts c s job texts = (work_of c).texts s job texts

abbrev pub AreTextsSoFar : Command → Settings → JobRows → List OutText → Type 0
AreTextsSoFar c s job texts = (work_of c).so_far s job texts

abbrev pub AreWatchedSoFar : Command → Settings → JobRows → List OutText → Type 0
AreWatchedSoFar c s job texts = (work_of c).watched s job texts

-- the count of failed puts rose
abbrev pub PutsFailed : DeskState → DeskState → Type 0
PutsFailed before after = Rose before.put_faults after.put_faults

-- an audit found a check that fails, and its place was put to Report alone, whole unless puts
-- failed
pub record IsDifferent (s : Settings) (job : JobRows) (before after : DeskState) : Type 0 where
  pub is : kind_of s.command ≡ Auditing
  pub place : Place
  pub fails : IsAudited s job (verdict.No place.table place.line place.column)
  pub report : IsOut output.Report (differs_line place) before.taken after.taken before.put_faults
      after.put_faults

-- what the work over an accepted job put, by the status with which it ended; of a difference more
-- is told apart
abbrev pub Works : Settings → JobRows → Status → Taken → Taken → Type 0
Works s job status.Done before after =
    SomeOut (AreTexts s.command s job) before after
Works s job status.WriteFault before after =
    SomeCutOff (AreTextsSoFar s.command s job) before after
Works s job status.Memory before after =
    SomeOut (AreWatchedSoFar s.command s job) before after
Works s job status.Differs before after = ⊤
Works s job _ before after = ⊥
