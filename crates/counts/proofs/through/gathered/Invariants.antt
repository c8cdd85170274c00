use Rattle.dta_model.specs.Lent.{plan_of}
use Rattle.counts.specs.Inside.Pairs.{ArePairs}
use Rattle.counts.proofs.through.gathered.Given as goal

abbrev pub invariant-loop-vehicle : goal.invariant-loop-vehicle
invariant-loop-vehicle l = ArePairs (plan_of l.loading) l.link.0 l.vehicle l.pairs.items
