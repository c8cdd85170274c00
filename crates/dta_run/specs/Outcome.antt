-- What a run's answer says of its desk, from before the run to after it.
use Rattle.std.specs.Prelude.{ℕ, ◌≡◌, ◌≤◌, ◌⊎◌, List, Contains, Option, None, Some}
use Rattle.desk_io.specs.Faults.{Rose}
use Rattle.desk_io.specs.declared.desk.Table.{Table}
use Rattle.desk_io.specs.declared.desk.Output.TheVariants as output
use Rattle.desk_io.specs.State.{DeskState}
use Rattle.desk_io.specs.Transfers.{IsOut}
use Rattle.pending_text.specs.Outs.{IsCutOff, OutText, grown_by}
use Rattle.row_reader.specs.declared.faults.TableFault.{TableFault}
use Rattle.reports.specs.Texts.{differs_line, refusal_line}
use Rattle.reports.specs.declared.audited.Place.{Place}
use Rattle.reports.specs.declared.refusal.Refusal.{Refusal}
use Rattle.reports.specs.declared.refusal.Refusal.TheVariants as refusal
use Rattle.audit.specs.declared.verdict.Verdict.TheVariants as verdict
use Rattle.dta_words.specs.Grammar.{settings_of}
use Rattle.dta_words.specs.declared.command.Settings.{Settings}
use Rattle.commands.specs.declared.status.Status.{Status}
use Rattle.commands.specs.declared.status.Status.TheVariants as status
use Rattle.jobs.specs.Inputs.{Auditing, kind_of}
use Rattle.jobs.specs.Reading.{Reading, read_tables, reads_at}
use Rattle.jobs.specs.Jobs.{IsJobOf, JobRows}
use Rattle.jobs.specs.Causes.{EndsForMemory, IsCause}
use Rattle.jobs.specs.Verdict.{Accepted, Refused, Verdict}
use Rattle.commands.specs.Status.{refusal_status}
use Rattle.reference.specs.Audits.{verdict_of}
use Rattle.reference.specs.Texts.{AreWatchLinesOf, HasItsTexts, HasSoundLoadings}

-- Report alone was put: the line of a refusal, whole unless puts failed
abbrev pub ReportsLine : Refusal → DeskState → DeskState → Type 0
ReportsLine r before after =
    IsOut output.Report (refusal_line r) before.taken after.taken before.put_faults after.put_faults

-- a run was refused: the words are in the grammar, the cause was there, and its line was put
pub record IsRefused (r : Refusal) (words : List (List ℕ)) (before after : DeskState) : Type 0 where
  pub settings : Settings
  pub told : settings_of words ≡ Some settings
  pub cause : Reading settings.command (IsCause settings r) (reads_at before) (reads_at after)
  pub report : ReportsLine r before after

-- the words aren't in the grammar; nothing was read, and the line of usage was put
pub record IsUsage (words : List (List ℕ)) (before after : DeskState) : Type 0 where
  pub told : settings_of words ≡ None
  pub left : after.left ≡ before.left
  pub report : ReportsLine refusal.Usage before after

-- the words are in the grammar, their tables were read to the end and accepted, and this holds of
-- the job that they make
pub record HasJob (words : List (List ℕ)) (before after : DeskState)
    (Holds : Settings → JobRows → Type 0) : Type 0 where
  pub settings : Settings
  pub told : settings_of words ≡ Some settings
  pub job : JobRows
  pub accepted : Reading settings.command (IsJobOf settings job) (reads_at before) (reads_at after)
  pub holds : Holds settings job

-- memory was wanting in the work: of all outputs only Watch grew, by whole lines of the first
-- iterations, and by none where the command does no assignment
pub record IsStopped (s : Settings) (job : JobRows) (before after : DeskState) : Type 0 where
  pub iterations : ℕ
  pub few : iterations ≤ s.iterations
  pub watched : List OutText
  pub by_rule : AreWatchLinesOf s job iterations watched
  pub out : after.taken ≡ grown_by watched before.taken

-- an audit found a check that fails, and its place was put to Report alone, whole unless puts
-- failed
pub record DiffersAt (s : Settings) (job : JobRows) (before after : DeskState) : Type 0 where
  pub is : kind_of s.command ≡ Auditing
  pub place : Place
  pub fails : verdict_of s job ≡ verdict.No place.table place.line place.column
  pub report : IsOut output.Report (differs_line place) before.taken after.taken before.put_faults
      after.put_faults

-- what the work over an accepted job put, by the status with which it ended: with Done all texts
-- whole, in their order; with WriteFault, where puts failed, some whole, in their order, and then
-- a first part of the next
abbrev pub IsPut : Settings → JobRows → Status → DeskState → DeskState → Type 0
IsPut s job status.Done before after =
    HasItsTexts s job (λ texts. after.taken ≡ grown_by texts before.taken)
IsPut s job status.WriteFault before after =
    HasItsTexts s job (λ texts. IsCutOff texts before.taken after.taken)
    × Rose before.put_faults after.put_faults
IsPut s job status.Memory before after = IsStopped s job before after
IsPut s job status.Differs before after = DiffersAt s job before after
IsPut s job _ before after = ⊥

-- and each of its loadings is sound
pub record IsWorked (s : Settings) (job : JobRows) (answer : Status) (before after : DeskState)
    : Type 0 where
  pub put : IsPut s job answer before after
  pub loadings : HasSoundLoadings s job

-- a run did its work over an accepted job
abbrev pub HasWorked : List (List ℕ) → Status → DeskState → DeskState → Type 0
HasWorked words answer before after =
    HasJob words before after (λ s job. IsWorked s job answer before after)

-- memory was wanting: for the words, before the work, or in it. No output was put but Watch
abbrev pub IsStarved : List (List ℕ) → DeskState → DeskState → Type 0
IsStarved words before after =
    ((after.left ≡ before.left) × (after.taken ≡ before.taken))
    ⊎ (((s : Settings) × (settings_of words ≡ Some s)
    × Reading s.command (EndsForMemory s) (reads_at before) (reads_at after)
    × (after.taken ≡ before.taken))
    ⊎ HasWorked words status.Memory before after)

-- what each status says
abbrev pub Means : List (List ℕ) → Status → DeskState → DeskState → Type 0
Means words status.Done before after = HasWorked words status.Done before after
Means words status.Usage before after = IsUsage words before after
Means words status.Table before after =
    (fault : TableFault) × IsRefused (refusal.Table fault) words before after
Means words status.ReadFault before after =
    (t : Table) × IsRefused (refusal.Read t) words before after
Means words status.Size before after =
    ((t : Table) × IsRefused (refusal.LongTable t) words before after)
    ⊎ (((links : ℕ) × (steps : ℕ) × IsRefused (refusal.Cells links steps) words before after)
    ⊎ (((line : ℕ) × (total : ℕ) × IsRefused (refusal.Vehicles line total) words before after)
    ⊎ (((number : ℕ) × IsRefused (refusal.SkimPairs number) words before after)
    ⊎ ((links : ℕ) × (steps : ℕ) × IsRefused (refusal.SweepCells links steps) words before after))))
Means words status.WriteFault before after = HasWorked words status.WriteFault before after
Means words status.Memory before after = IsStarved words before after
Means words status.Differs before after = HasWorked words status.Differs before after

-- these settings read this table of the desk
abbrev pub IsReadBy : Option Settings → Table → Type 0
IsReadBy None t = ⊥
IsReadBy (Some s) t = Contains (read_tables s.command s.start) t

-- a table that the settings read couldn't be read, and Report names it
abbrev pub IsUnread : Option Settings → DeskState → DeskState → Type 0
IsUnread settings before after =
    (t : Table) × IsReadBy settings t × ReportsLine (refusal.Read t) before after
    × Rose before.read_faults after.read_faults

-- a fault of the outside, or want of memory
abbrev pub IsHindered : Option Settings → Status → DeskState → DeskState → Type 0
IsHindered settings answer before after =
    ((answer ≡ status.ReadFault) × IsUnread settings before after) ⊎ (answer ≡ status.Memory)

-- what a run answers where the bytes of its tables are told, and so the verdict is known before it
-- runs
abbrev pub Answers : Option Settings → Verdict → Status → DeskState → DeskState → Type 0
Answers settings (Refused r) answer before after =
    ((answer ≡ refusal_status r) × ReportsLine r before after)
    ⊎ IsHindered settings answer before after
Answers settings (Accepted s job) answer before after =
    IsWorked s job answer before after ⊎ IsHindered settings answer before after
