use Rattle.std.proofs.Common.{◌≡◌, ◌<◌, ℕ, [], length, map, get_or}
use Rattle.labels.specs.Filling.Labels.{in_slot}
use Rattle.labels.specs.Filling.Tails.{IsPut}
use Rattle.labels.proofs.filling.slot_rows.put_tails.Given as goal

abbrev pub invariant-loop-slot : goal.invariant-loop-slot
invariant-loop-slot g l =
    (length l.labels ≡ length l.initial.labels)
    × ((j : ℕ) → j < l.slot → IsPut g.S.Slots.FAR (in_slot g.S.Slots.slot l.labels j) (get_or (map (λ tail. tail.items) l.tails) j []))
