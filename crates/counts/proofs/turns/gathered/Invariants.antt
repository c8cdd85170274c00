use Rattle.dta_model.specs.Lent.{plan_of}
use Rattle.counts.specs.Inside.Turns.{AreTurns}
use Rattle.counts.proofs.turns.gathered.Given as goal

abbrev pub invariant-loop-vehicle : goal.invariant-loop-vehicle
invariant-loop-vehicle l = AreTurns (plan_of l.loading) l.bucket l.vehicle l.turns.items
