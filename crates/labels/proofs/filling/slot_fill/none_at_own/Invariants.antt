use Rattle.labels.specs.ToZone.{zone_numbers}
use Rattle.labels.proofs.OfFilling.SlotFacts.{AreOwnTo}
use Rattle.labels.proofs.filling.slot_fill.none_at_own.Given as goal

abbrev pub invariant-loop-place : goal.invariant-loop-place
invariant-loop-place g l = AreOwnTo l.zone (zone_numbers l.zones) g.S.Slots.SLOTS (g.S.Slots.slot l.fn.least) (g.S.Slots.slot l.own) l.place
