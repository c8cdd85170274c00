use Rattle.std.proofs.Common.{◌≡◌, ◌<◌, ℕ, drop, min}
use Rattle.trip_costs.specs.WalkCosts.{steps_in, table_in}
use Rattle.labels.specs.Filling.Labels.{in_slot, rest_in}
use Rattle.labels.specs.Filling.Rests.{least_over}
use Rattle.labels.proofs.filling.slot_fill.least_slots.Given as goal

abbrev pub invariant-loop-span : goal.invariant-loop-span
invariant-loop-span g l = (j : ℕ) → j < g.S.Slots.SLOTS
    → min (g.S.Slots.slot l.least j) (least_over (steps_in l.row.costs) g.S.Slots.FAR (rest_in l.row.states (table_in l.row.costs).horizon (in_slot g.S.Slots.slot l.labels j)) l.row.step (drop l.span-index l.ways))
    ≡ least_over (steps_in l.row.costs) g.S.Slots.FAR (rest_in l.row.states (table_in l.row.costs).horizon (in_slot g.S.Slots.slot l.labels j)) l.row.step l.ways
