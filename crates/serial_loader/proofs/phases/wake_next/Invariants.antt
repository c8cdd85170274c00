use Rattle.dta_model.specs.Lent.{plan_of}
use Rattle.serial_loader.specs.Phases.{AreWoken}
use Rattle.serial_loader.proofs.Wakes.{ReachedTo}
use Rattle.serial_loader.proofs.phases.wake_next.Given as goal

abbrev pub invariant-loop-place : goal.invariant-loop-place
invariant-loop-place l = AreWoken l.initial.wakes l.wakes × ReachedTo (plan_of l.loading) l.fn.node.0 l.place l.wakes l.mail
