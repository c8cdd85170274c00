use Rattle.std.proofs.Common.{◌≡◌, ◌*◌, ◌≤◌, ◌^◌}
use Rattle.gap.specs.RouteTimes.{over_vehicles}
use Rattle.gap.specs.Told.{least_at}
use Rattle.gap.proofs.measure.all_least_steps.Given as goal

abbrev pub invariant-loop-v : goal.invariant-loop-v
invariant-loop-v l =
    (l.total ≡ over_vehicles l.v (least_at l.routes l.told))
    × (l.total ≤ l.v * 2 ^ 64)
