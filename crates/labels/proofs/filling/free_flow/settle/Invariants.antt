use Rattle.std.proofs.Common.{length}
use Rattle.std.specs.BinaryHeap.{heap_items}
use Rattle.labels.specs.Filling.Falling.{IsFalling, work}
use Rattle.labels.proofs.filling.free_flow.settle.Given as goal

abbrev pub invariant-each : goal.invariant-each
invariant-each l = IsFalling l.to.router.now l.to.free.now l.to.zone l.to.back.now.ways.items (heap_items l.heap) l.tail (length l.to.router.now.zones.items) 0 0

abbrev pub decreases-each : goal.decreases-each
decreases-each l = work (heap_items l.heap) l.tail
