-- What a call of an assignment's iterations does to the desk, in one record each.
use Rattle.std.specs.Prelude.{◌≡◌, ◌≤◌, ℕ, List, Result, IfOk, IfErr}
use Rattle.desk_io.specs.Desk.{Taken}
use Rattle.dta_model.specs.Loading.{journeys_of}
use Rattle.dta_model.specs.declared.loaded.Journey.{Journey}
use Rattle.assignment.specs.Assignment.{VehicleRoutes}
use Rattle.assignment.specs.Lent.{plan_in, settings_in, traffic_in}
use Rattle.assignment.specs.declared.lent.Assignment.{Assignment}
use Rattle.desk_io.specs.State.{DeskState}
use Rattle.pending_text.specs.Outs.{SomeOut}
use Rattle.commands.specs.Works.{PutsFailed}
use Rattle.commands.specs.Texts.{AreWatchLines}
use Rattle.assign_command.specs.Progress.{HaltsIn}
use Rattle.assign_command.specs.declared.halt.Halt.{Halt}
use Rattle.assign_command.specs.declared.halt.Halt.TheVariants as halt

-- a call that puts watch lines and does nothing else to a desk: what it gives where it is done,
-- and how it halts. A watch line is missing only where the count of failed puts rose
pub record OnlyWatches {T : Type 0} (Done : T → Taken → Taken → Type 0)
    (Halted : Halt → Taken → Taken → Type 0) (before after : DeskState) (result : Result T Halt)
    : Type 0 where
  pub done : IfOk result (λ x. Done x before.taken after.taken)
  pub halts : IfErr result (λ why. Halted why before.taken after.taken)
  pub failed : IfErr result (λ why. why ≡ halt.Watch → PutsFailed before after)
  pub later : before.put_faults ≤ after.put_faults
  pub left : after.left ≡ before.left
  pub reads : after.read_faults ≡ before.read_faults

-- a call that loads an iteration over these routes: it gives their journeys, puts the watch lines
-- of the iteration, and does nothing else to a desk
pub record LoadsIteration (a : Assignment) (number : ℕ) (routes : VehicleRoutes)
    (before after : DeskState) (result : Result (List Journey) Halt) : Type 0 where
  pub loaded : IfOk result (λ loaded. loaded ≡ journeys_of (plan_in a routes))
  pub watches : OnlyWatches
      (λ _. SomeOut (AreWatchLines (settings_in a) (traffic_in a) number routes))
      (HaltsIn (settings_in a) (traffic_in a) number routes) before after result
