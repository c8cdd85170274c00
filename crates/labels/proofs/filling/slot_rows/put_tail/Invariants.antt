use Rattle.std.proofs.Common.{◌≡◌, ◌≢◌, ◌<◌, ℕ, length, min, get_or}
use Rattle.labels.specs.Filling.Labels.{in_slot}
use Rattle.labels.proofs.filling.slot_rows.put_tail.Given as goal

abbrev pub invariant-loop-state : goal.invariant-loop-state
invariant-loop-state g l =
    (length l.labels ≡ length l.initial.labels)
    × ((s : ℕ) → s < l.state → get_or (in_slot g.S.Slots.slot l.labels l.slot) s 0 ≡ min (get_or l.tail s 0) g.S.Slots.FAR)
    × ((s j : ℕ) → j < g.S.Slots.SLOTS → j ≢ l.slot → get_or (in_slot g.S.Slots.slot l.labels j) s 0 ≡ get_or (in_slot g.S.Slots.slot l.initial.labels j) s 0)
