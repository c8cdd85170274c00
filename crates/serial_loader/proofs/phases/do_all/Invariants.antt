use Rattle.dta_model.specs.Lent.{plan_of}
use Rattle.serial_loader.proofs.Steps.{InHalf}
use Rattle.serial_loader.proofs.phases.do_all.Given as goal

abbrev pub invariant-loop-n : goal.invariant-loop-n
invariant-loop-n l = InHalf l.fn.half (plan_of l.loading) l.step l.n l.cells l.wakes l.mail
