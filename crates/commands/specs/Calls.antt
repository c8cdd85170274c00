-- What a call that does a job's work does to the desk.
use Rattle.std.specs.Prelude.{◌≡◌, ◌≤◌}
use Rattle.dta_words.specs.declared.command.Settings.{Settings}
use Rattle.jobs.specs.Jobs.{JobRows}
use Rattle.desk_io.specs.State.{DeskState}
use Rattle.commands.specs.Works.{IsDifferent, PutsFailed, Works}
use Rattle.commands.specs.declared.status.Status.{Status}
use Rattle.commands.specs.declared.status.Status.TheVariants as status

-- a call that does the work over a job: it reads nothing, and what it put is told by its status
pub record DoesWork (s : Settings) (job : JobRows) (before after : DeskState) (answer : Status)
    : Type 0 where
  pub work : Works s job answer before.taken after.taken
  pub failed : answer ≡ status.WriteFault → PutsFailed before after
  pub differs : answer ≡ status.Differs → IsDifferent s job before after
  pub later : before.put_faults ≤ after.put_faults
  pub left : after.left ≡ before.left
  pub reads : after.read_faults ≡ before.read_faults
