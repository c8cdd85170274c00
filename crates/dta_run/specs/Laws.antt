-- What the headlines of two runs say together.
use Rattle.std.specs.Prelude.{ℕ, ◌≡◌, List, false}
use Rattle.desk_io.specs.Desk.{taken_of}
use Rattle.desk_io.specs.State.{DeskState}
use Rattle.desk_io.specs.declared.desk.Output.{Output}
use Rattle.desk_io.specs.declared.desk.Table.{Table}
use Rattle.loader.specs.Gates.{GateState}
use Rattle.commands.specs.declared.status.Status.TheVariants as status
use Rattle.dta_words.specs.Grammar.{settings_of}
use Rattle.jobs.specs.Verdict.{AreToldBy}
use Rattle.dta_run.specs.Headline.{Headline}
use Rattle.commands.specs.Texts.{is_watch}

-- a run with these words over these tables that ended with Done, with its desk before and after it
pub record IsDoneOver (words : List (List ℕ)) (texts : Table → List ℕ) (before after : DeskState)
    : Type 0 where
  pub told : AreToldBy (settings_of words) before.left texts
  pub gate : GateState
  pub now : GateState
  pub headline : Headline words status.Done before after gate now

-- two runs with equal words over equal tables that ended with Done, and began with equal outputs:
-- each output but Watch has the same bytes after them
abbrev pub EqualRunsWriteEqualTexts : Type 0
EqualRunsWriteEqualTexts =
    (words : List (List ℕ)) (texts : Table → List ℕ) (before after before' after' : DeskState)
    → IsDoneOver words texts before after → IsDoneOver words texts before' after'
    → before.taken ≡ before'.taken
    → (o : Output) → is_watch o ≡ false → taken_of o after.taken ≡ taken_of o after'.taken
