use Rattle.std.proofs.Common.{◌<◌, arith, length, refl, sym}
use Rattle.net_core.specs.declared.rows.ZoneNo.{ZoneNo}
use Rattle.labels.specs.ToZone.{zone_numbers}
use Rattle.labels.proofs.OfReading.GroupFacts.{number_of}
use Rattle.labels.proofs.OfFilling.SlotFacts.{AreOwnTo_more}
use Rattle.labels.proofs.filling.slot_fill.none_at_own.Goals as goal

pub loop-place-init : goal.loop-place-init
loop-place-init g c = record { done = λ j h. absurd (omega arith); left = λ j h k. refl }

pub loop-place-preserved : goal.loop-place-preserved
loop-place-preserved g c =
    let zones = c.args.zones.now in
    let place = c.loop-place.place in
    let small : place < length zones = c.loop-place-test.true in
    let zone : ZoneNo = record { 0 = 0 } in
    let number = sym (number_of zones place zone small) in
    AreOwnTo_more c.args.zone (zone_numbers zones) g.S.Slots.SLOTS (g.S.Slots.slot c.args.least) (g.S.Slots.slot c.loop-place.own) (g.S.Slots.slot c.none_at-own.result) place _ (omega (arith, small, c.requires)) number c.none_at-own.ensures c.loop-place.invariant

pub returns : goal.returns
returns g c = λ j small. c.loop-place.invariant.done j (omega (arith, small, c.loop-place-test.false))
