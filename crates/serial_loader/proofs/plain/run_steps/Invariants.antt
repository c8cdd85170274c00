use Rattle.dta_model.specs.Lent.{plan_of}
use Rattle.serial_loader.specs.Phases.{AreBefore}
use Rattle.serial_loader.proofs.plain.run_steps.Given as goal

abbrev pub invariant-loop-step : goal.invariant-loop-step
invariant-loop-step l = AreBefore (plan_of l.loading) l.step l.cells l.wakes l.mail
