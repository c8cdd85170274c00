-- What a call that refuses does to the desk.
use Rattle.std.specs.Prelude.{◌≡◌, ◌≤◌}
use Rattle.reports.specs.declared.refusal.Refusal.{Refusal}
use Rattle.desk_io.specs.State.{DeskState}
use Rattle.dta_run.specs.Outcome.{ReportsLine}
use Rattle.commands.specs.Status.{refusal_status}
use Rattle.commands.specs.declared.status.Status.{Status}

-- a call that puts the line of a refusal and answers its status
pub record Refuses (r : Refusal) (before after : DeskState) (answer : Status) : Type 0 where
  pub status : answer ≡ refusal_status r
  pub report : ReportsLine r before after
  pub later : before.put_faults ≤ after.put_faults
  pub left : after.left ≡ before.left
  pub reads : after.read_faults ≡ before.read_faults
