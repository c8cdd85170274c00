use Rattle.scaled_demand.proofs.LimitFacts.{AreBefore}
use Rattle.scaled_demand.proofs.limits.check_scales.Given as goal

abbrev pub invariant-loop-scenario : goal.invariant-loop-scenario
invariant-loop-scenario l = AreBefore l.cells l.scales l.scenario
