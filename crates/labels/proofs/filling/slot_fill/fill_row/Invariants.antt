use Rattle.std.proofs.Common.{◌≡◌, length}
use Rattle.trip_costs.specs.WalkCosts.{steps_in, table_in}
use Rattle.labels.specs.Filling.Slots.{AreSlotsTo}
use Rattle.labels.specs.ToZone.{zone_numbers}
use Rattle.labels.proofs.filling.slot_fill.fill_row.Given as goal

abbrev pub invariant-loop-state : goal.invariant-loop-state
invariant-loop-state g l =
    (length l.labels ≡ length l.initial.labels)
    × AreSlotsTo g.S.Slots.slot (steps_in l.timed.costs) g.S.Slots.FAR l.timed.router.now (table_in l.timed.costs).horizon (zone_numbers l.zones) l.initial.labels l.labels l.back l.step l.state
