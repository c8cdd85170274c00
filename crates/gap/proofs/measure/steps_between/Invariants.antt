use Rattle.std.proofs.Common.{◌≡◌, ◌+◌, ◌*◌, ◌≤◌, ◌^◌}
use Rattle.gap.specs.RouteTimes.{over_vehicles}
use Rattle.gap.specs.Shares.{steps_over}
use Rattle.gap.proofs.measure.steps_between.Given as goal

abbrev pub invariant-loop-v : goal.invariant-loop-v
invariant-loop-v l =
    (over_vehicles l.from (steps_over l.timed l.routes) + l.total ≡ over_vehicles l.v (steps_over l.timed l.routes))
    × (l.total ≤ l.v * 2 ^ 82)
