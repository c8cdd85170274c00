use Rattle.std.proofs.Common.{◌≡◌, ap, arith, cond, false, get_or, sym}
use Rattle.std.specs.Prelude.{nat_eq}
use Rattle.net_core.specs.declared.rows.ZoneNo.{ZoneNo}
use Rattle.labels.specs.ToZone.{zone_numbers}
use Rattle.labels.proofs.Basics.{differs}
use Rattle.labels.proofs.OfReading.GroupFacts.{number_of}
use Rattle.labels.proofs.filling.slot_fill.unless_own.Goals as goal

pub returns-then-zone-eq-NO_ZONE : goal.returns-then-zone-eq-NO_ZONE
returns-then-zone-eq-NO_ZONE g c = λ j small.
    let zones = c.args.zones.now in
    let zone : ZoneNo = record { 0 = 0 } in
    let number = number_of zones j zone small in
    let below = c.requires.zones j zone small in
    let none = c.if-zone-eq-NO_ZONE.true in
    let apart : nat_eq c.args.zone (get_or (zone_numbers zones) j 0) ≡ false = differs c.args.zone (get_or (zone_numbers zones) j 0) (λ e. absurd (omega (arith, e, number, below, none))) in
    sym (ap (λ b. cond b 0 (g.S.Slots.slot c.args.least j)) apart)
