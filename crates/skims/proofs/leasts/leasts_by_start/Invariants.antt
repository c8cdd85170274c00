use Rattle.trip_costs.specs.Costs.{timing_of}
use Rattle.std.proofs.Common.{take}
use Rattle.labels.specs.ToZone.{destination}
use Rattle.skims.specs.Leasts.{AreTo}
use Rattle.skims.proofs.leasts.leasts_by_start.Given as goal

abbrev pub invariant-loop-start : goal.invariant-loop-start
invariant-loop-start l =
    AreTo (timing_of l.labels.costs) l.labels.net (take l.start-index l.starts)
    (destination l.labels l.place) l.leasts.items
