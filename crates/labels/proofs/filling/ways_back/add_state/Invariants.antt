use Rattle.labels.specs.Filling.WaysBack.{AreWaysBack}
use Rattle.labels.proofs.filling.ways_back.add_state.Given as goal

abbrev pub invariant-loop-way : goal.invariant-loop-way
invariant-loop-way l = AreWaysBack l.router l.free l.ways.items l.lasts l.state l.way-index
