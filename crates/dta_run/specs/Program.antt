-- What the number says with which the program ends.
use Rattle.std.specs.Prelude.{ℕ, ◌≡◌, ◌⊎◌, List}
use Rattle.std.specs.declared.io.ErrorKind.{ErrorKind}
use Rattle.std.specs.declared.io.ErrorKind.TheVariants as kind
use Rattle.desk_io.specs.Faults.{Rose}
use Rattle.desk_io.specs.State.{DeskState}
use Rattle.commands.specs.Status.{number_of}
use Rattle.commands.specs.declared.status.Status.{Status}
use Rattle.commands.specs.declared.status.Status.TheVariants as status
use Rattle.assign_command.specs.Receipts.{silent}
use Rattle.dta_run.specs.Headline.{Headline}

-- the status of a run of which a file isn't kept
abbrev pub lost_status : Status → Status
lost_status status.Done = status.WriteFault
lost_status answer = answer

-- a run of these words ended with a status, which it has from the headline; then the files were
-- kept, and the number is that of the status, or one wasn't, and Done is WriteFault
pub record EndsAfterRun (words : List (List ℕ)) (before after : DeskState) (AreKept : Type 0)
    (number : ℕ) : Type 0 where
  pub status : Status
  -- the desk once the run was done
  pub ran : DeskState
  pub headline : Headline words status before ran silent silent
  pub left : after.left ≡ ran.left
  pub taken : after.taken ≡ ran.taken
  pub reads : after.read_faults ≡ ran.read_faults
  pub ended : (AreKept × (number ≡ number_of status))
      ⊎ (Rose ran.put_faults after.put_faults × (number ≡ number_of (lost_status status)))

-- the number where there are no words: that of want of memory, or else, where one isn't text, 1
abbrev pub number_without_words : ErrorKind → ℕ
number_without_words kind.OutOfMemory = number_of status.Memory
number_without_words _ = 1
