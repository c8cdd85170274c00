-- What the words and the bytes of the tables come to, before any work.
use Rattle.std.specs.Prelude.{ℕ, ⊤, nat_le, if◌then◌else◌, List, [], ◌∷◌, length, Option, None}
use Rattle.std.specs.Prelude.{Some, Result, Ok, Err}
use Rattle.desk_io.specs.declared.desk.Table.{Table}
use Rattle.desk_io.specs.Desk.{Left}
use Rattle.row_reader.specs.declared.faults.TableFault.{TableFault}
use Rattle.reports.specs.declared.refusal.Refusal.{Refusal}
use Rattle.reports.specs.declared.refusal.Refusal.TheVariants as refusal
use Rattle.desk_io.specs.declared.transfers.TheConstants.{MOST_TABLE_BYTES}
use Rattle.dta_words.specs.Grammar.{settings_of}
use Rattle.dta_words.specs.declared.command.Command.{Command}
use Rattle.dta_words.specs.declared.command.Settings.{Settings}
use Rattle.jobs.specs.TableRows.{TableRows, no_rows}
use Rattle.jobs.specs.Inputs.{limits_of, tables_of}
use Rattle.jobs.specs.Reading.{read_tables, texts_for}
use Rattle.jobs.specs.Jobs.{JobRows, job_of}
use Rattle.jobs.specs.Tables.{AreTold, with_table}

-- a run is refused, or its tables are accepted and make this job
pub data Verdict : Type 0 where
  Refused : Refusal → Verdict
  Accepted : Settings → JobRows → Verdict

-- one table, and then what is next
abbrev pub after_table : Result TableRows TableFault → (TableRows → Verdict) → Verdict
after_table (Err fault) next = Refused (refusal.Table fault)
after_table (Ok rows) next = next rows

-- the tables one after the other: the first that is too long or has a fault is told, and otherwise
-- the verdict is that on the rows of all
abbrev pub verdict_on :
    Settings → List Table → (Table → List ℕ) → TableRows → (TableRows → Verdict) → Verdict
verdict_on settings [] texts rows next = next rows
verdict_on settings (t ∷ others) texts rows next =
    if nat_le (length (texts t)) MOST_TABLE_BYTES
    then after_table (with_table settings rows t (texts t))
    (λ more. verdict_on settings others texts more next)
    else Refused (refusal.LongTable t)

-- the first limit that the rows are past, or their job
abbrev pub verdict_past : Option Refusal → Settings → TableRows → Verdict
verdict_past None s rows = Accepted s (job_of s rows)
verdict_past (Some r) s rows = Refused r

abbrev pub verdict_on_rows : Command → Settings → TableRows → Verdict
verdict_on_rows c s rows = verdict_past ((limits_of c).first_past s rows) s rows

abbrev pub verdict_by : Option Settings → (Table → List ℕ) → Verdict
verdict_by None texts = Refused refusal.Usage
verdict_by (Some s) texts =
    verdict_on s (tables_of s.command s.start) (texts_for s.command texts) no_rows
    (verdict_on_rows s.command s)

-- the first cause in the order of the work: the words; each table, too long or with a first fault,
-- before the next is looked at; the sizes
abbrev pub verdict : List (List ℕ) → (Table → List ℕ) → Verdict
verdict words texts = verdict_by (settings_of words) texts

-- the texts of all tables that these words read are told
abbrev pub AreToldBy : Option Settings → Left → (Table → List ℕ) → Type 0
AreToldBy None left texts = ⊤
AreToldBy (Some s) left texts = AreTold (read_tables s.command s.start) left texts
