-- The causes for which a run is refused, and where memory was wanting before its work.
use Rattle.std.specs.Prelude.{◌≡◌, ◌⊎◌, ⊤}
use Rattle.desk_io.specs.declared.desk.Table.{Table}
use Rattle.desk_io.specs.Desk.{Left}
use Rattle.desk_io.specs.Faults.{Rose}
use Rattle.desk_io.specs.Transfers.{IsBegun, IsLong}
use Rattle.reports.specs.declared.refusal.Refusal.{Refusal}
use Rattle.reports.specs.declared.refusal.Refusal.TheVariants as refusal
use Rattle.desk_io.specs.declared.transfers.TheConstants.{MOST_TABLE_BYTES}
use Rattle.dta_words.specs.declared.command.Settings.{Settings}
use Rattle.jobs.specs.TableRows.{TableRows, no_rows}
use Rattle.jobs.specs.Inputs.{limits_of, tables_of}
use Rattle.jobs.specs.Reading.{ReadState}
use Rattle.jobs.specs.Tables.{AreAccepted, IsFaulty, ReachedAmong}

-- the count of failed reads rose
abbrev pub ReadsFailed : ReadState → ReadState → Type 0
ReadsFailed before after = Rose before.read_faults after.read_faults

-- all tables of a command were accepted, and this is so of their rows
pub record AreCounted (s : Settings) (Part : TableRows → Type 0) (before after : ReadState)
    : Type 0 where
  pub rows : TableRows
  pub read : AreAccepted s (tables_of s.command s.start) no_rows rows before.left after.left
  pub part : Part rows

-- a table of the command was reached, and this was so of it
abbrev pub Reached :
    Settings → Table → (TableRows → Left → Left → Type 0) → ReadState → ReadState → Type 0
Reached s t Part before after =
    ReachedAmong s (tables_of s.command s.start) t Part no_rows before.left after.left

-- all tables were accepted, and their rows are past the limit that this refusal tells
abbrev pub IsPast : Settings → Refusal → ReadState → ReadState → Type 0
IsPast s r before after =
    AreCounted s (λ rows. (limits_of s.command).past s rows r) before after

-- the cause of a refusal, as the reading of the tables until then shows it
abbrev pub IsCause : Settings → Refusal → ReadState → ReadState → Type 0
IsCause s refusal.Usage before after = ⊥
IsCause s (refusal.Table fault) before after =
    Reached s fault.table (IsFaulty s fault fault.table) before after
IsCause s (refusal.Read t) before after =
    Reached s t (λ _. IsBegun t) before after × ReadsFailed before after
IsCause s (refusal.LongTable t) before after =
    Reached s t (λ _. IsLong t MOST_TABLE_BYTES) before after
IsCause s (refusal.Cells links steps) before after =
    IsPast s (refusal.Cells links steps) before after
IsCause s (refusal.Vehicles line total) before after =
    IsPast s (refusal.Vehicles line total) before after
IsCause s (refusal.SkimPairs number) before after =
    IsPast s (refusal.SkimPairs number) before after
IsCause s (refusal.SweepCells links steps) before after =
    IsPast s (refusal.SweepCells links steps) before after

-- memory was wanting before a table was read, at one of them, or after all were accepted
abbrev pub EndsForMemory : Settings → ReadState → ReadState → Type 0
EndsForMemory s before after =
    (after ≡ before)
    ⊎ (((t : Table) × Reached s t (λ _. IsBegun t) before after)
    ⊎ AreCounted s (λ rows. ⊤) before after)
