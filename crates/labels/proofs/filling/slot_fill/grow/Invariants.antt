use Rattle.std.proofs.Common.{◌≡◌, ℕ, ◌-◌, ◌<◌, ◌≤◌, get_or, length}
use Rattle.labels.specs.Filling.Labels.{in_slot}
use Rattle.labels.proofs.filling.slot_fill.grow.Given as goal

abbrev pub invariant-each : goal.invariant-each
invariant-each g l =
    (length l.initial.labels.items ≤ length l.labels.items)
    × ((j k : ℕ) → k < length l.initial.labels.items → get_or (in_slot g.S.Slots.slot l.labels.items j) k 0 ≡ get_or (in_slot g.S.Slots.slot l.initial.labels.items j) k 0)

abbrev pub decreases-each : goal.decreases-each
decreases-each g l = l.count - length l.labels.items
