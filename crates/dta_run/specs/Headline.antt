-- What `run` promises, the page to read first: each field is a sentence. A run has the words
-- behind the program's name, a desk from which it reads tables and to which it puts outputs, and a
-- gate that takes a receipt of each loading by workers. All of it holds for every number of
-- workers and however their steps interleave.
--
-- Read on in Outcome (what each answer says), Texts of reference (the texts of settings and a job,
-- by functions), Verdict (what words and bytes come to), Receipts and Laws.
use Rattle.std.specs.Prelude.{ℕ, ◌≤◌, List}
use Rattle.desk_io.specs.declared.desk.Table.{Table}
use Rattle.dta_words.specs.Grammar.{settings_of}
use Rattle.loader.specs.Gates.{GateState}
use Rattle.dta_run.specs.Outcome.{Answers, Means}
use Rattle.desk_io.specs.State.{DeskState}
use Rattle.dta_run.specs.Receipts.{RunGives, ToldGives}
use Rattle.jobs.specs.Verdict.{AreToldBy, verdict}
use Rattle.commands.specs.declared.status.Status.{Status}

-- what a run with these words answered, and its desk and its gate before and after it
pub record Headline (words : List (List ℕ)) (answer : Status) (before after : DeskState)
    (gate now : GateState) : Type 0 where
  -- with Done every table of the command was read to its end and accepted; the outputs but Watch
  -- grew by exactly the texts of the settings and the job (`texts_of`), those of the plain
  -- simulator, and Watch by its lines, by their rule (`AreWatchTexts`); and each iteration has a
  -- sound loading, in which vehicles are conserved and links are left in the order of entry
  -- (`IsSoundLoading`). Each other answer but Memory has its cause, and all say what was put
  pub means : Means words answer before after
  -- where the desk tells the bytes of the tables, the answer and the texts are those of the
  -- verdict over words and bytes, unless a read or a put failed or memory was wanting
  pub told : (texts : Table → List ℕ) → AreToldBy (settings_of words) before.left texts
      → Answers (settings_of words) (verdict words texts) answer before after
  -- with Done the gate took one receipt for each iteration that was loaded by workers, where a put
  -- failed or memory was wanting at most as many, and otherwise none
  pub receipts : RunGives words answer before after gate now
  -- where the bytes are told, with the numbers of the verdict's job
  pub told_receipts : (texts : Table → List ℕ) → AreToldBy (settings_of words) before.left texts
      → ToldGives (verdict words texts) answer gate now
  -- the counts of failed reads and of failed puts never fall
  pub reads : before.read_faults ≤ after.read_faults
  pub puts : before.put_faults ≤ after.put_faults
