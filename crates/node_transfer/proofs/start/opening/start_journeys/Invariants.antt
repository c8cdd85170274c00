use Rattle.std.proofs.Common.{◌≡◌}
use Rattle.node_transfer.specs.Start.{no_journeys}
use Rattle.node_transfer.proofs.start.opening.start_journeys.Given as goal

abbrev pub invariant-loop-v : goal.invariant-loop-v
invariant-loop-v l = l.journeys.items ≡ no_journeys l.v
