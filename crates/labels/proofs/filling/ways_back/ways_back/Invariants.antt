use Rattle.labels.specs.Filling.WaysBack.{AreWaysBack}
use Rattle.labels.proofs.filling.ways_back.ways_back.Given as goal

abbrev pub invariant-loop-state : goal.invariant-loop-state
invariant-loop-state l = AreWaysBack l.router l.free l.ways.items l.lasts.items l.state 0
