use Rattle.std.proofs.Common.{◌≡◌, ◌+◌, ◌<◌, ◌≤◌, ℕ, length, get_or, Some}
use Rattle.std.specs.Prelude.{slice_get}
use Rattle.std.specs.BinaryHeap.{heap_items}
use Rattle.labels.specs.Filling.Falling.{IsFalling, work}
use Rattle.labels.specs.declared.filling.ways_back.WayBack.{WayBack}
use Rattle.labels.proofs.filling.free_flow.look_at.Given as goal

abbrev pub invariant-loop-count : goal.invariant-loop-count
invariant-loop-count l = record {
  falling : IsFalling l.to.router.now l.to.free.now l.to.zone l.to.back.now.ways.items (heap_items l.heap) l.tail (length l.to.router.now.zones.items) l.reached.state l.count;
  less : work (heap_items l.heap) l.tail ≤ work (heap_items l.initial.heap) l.initial.tail;
  left : 0 < l.count → get_or l.tail l.reached.state 0 ≡ l.reached.left;
  within : l.count ≤ length l.to.back.now.ways.items;
  last : (k : ℕ) (b : WayBack) → k + 1 ≡ l.count → slice_get l.to.back.now.ways.items k ≡ Some b → b.to ≡ l.reached.state;
}

abbrev pub decreases-loop-count : goal.decreases-loop-count
decreases-loop-count l = l.count
