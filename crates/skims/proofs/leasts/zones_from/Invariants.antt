use Rattle.std.proofs.Common.{◌≡◌}
use Rattle.std.specs.List.{range_with_len}
use Rattle.labels.specs.ToZone.{zone_numbers}
use Rattle.skims.proofs.leasts.zones_from.Given as goal

abbrev pub invariant-loop-place : goal.invariant-loop-place
invariant-loop-place l = zone_numbers l.zones.items ≡ range_with_len l.first l.place
