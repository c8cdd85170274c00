use Rattle.std.proofs.Common.{◌≡◌, ◌+◌, refl, sym, subst}
use Rattle.std.specs.List.{range_with_len}
use Rattle.labels.specs.ToZone.{zone_numbers}
use Rattle.skims.proofs.ZoneFacts.{numbers-more}
use Rattle.skims.proofs.leasts.zones_from.Goals as goal

pub loop-place-preserved : goal.loop-place-preserved
loop-place-preserved c =
    let first = c.args.first in
    let place = c.loop-place.place in
    subst (λ zs. zone_numbers zs ≡ range_with_len first (place + 1)) (sym c.in_ok-push.ensures.items)
    (numbers-more c.loop-place.zones.items first place (record { 0 = first + place }) c.loop-place.invariant refl)
