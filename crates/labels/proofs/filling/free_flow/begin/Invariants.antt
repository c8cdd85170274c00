use Rattle.std.specs.BinaryHeap.{heap_items}
use Rattle.labels.specs.Filling.Falling.{IsFalling}
use Rattle.labels.proofs.filling.free_flow.begin.Given as goal

abbrev pub invariant-loop-state : goal.invariant-loop-state
invariant-loop-state l = IsFalling l.to.router.now l.to.free.now l.to.zone l.to.back.now.ways.items (heap_items l.heap) l.tail l.state 0 0
