use Rattle.std.proofs.Common.{◌≡◌, ◌+◌, ◌-◌, ◌*◌, ◌/◌, ◌≤◌, ◌<◌, length}
use Rattle.trip_costs.specs.WalkCosts.{steps_in, table_in}
use Rattle.labels.specs.Filling.Slots.{AreSlotRows}
use Rattle.labels.specs.States.Spans.{AreMoving, IsSpans}
use Rattle.labels.specs.ToZone.{zone_numbers}
use Rattle.labels.proofs.filling.slot_fill.fill_slots.Given as goal

abbrev pub invariant-loop-step : goal.invariant-loop-step
invariant-loop-step g l =
    (l.step ≤ (table_in l.timed.costs).horizon)
    × (((table_in l.timed.costs).horizon - l.step + 1) * length l.timed.router.now.zones.items ≤ length l.labels.items)
    × AreSlotRows g.S.Slots.slot (steps_in l.timed.costs) g.S.Slots.FAR l.timed.router.now (table_in l.timed.costs).horizon (zone_numbers l.zones) l.initial.labels.items l.labels.items l.step
    × (length l.spans ≡ length l.timed.router.now.ways.items)
    × (l.step < (table_in l.timed.costs).horizon → IsSpans (steps_in l.timed.costs) l.step l.timed.router.now.ways.items l.spans)
    × (l.step < (table_in l.timed.costs).horizon → AreMoving l.timed.costs (l.step / (table_in l.timed.costs).bucket) l.timed.router.now.ways.items l.moving.items)

abbrev pub decreases-loop-step : goal.decreases-loop-step
decreases-loop-step g l = l.step
