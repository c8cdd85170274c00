use Rattle.trip_costs.specs.Costs.{timing_of}
use Rattle.std.proofs.Common.{take}
use Rattle.net_core.specs.Network.{zones}
use Rattle.labels.specs.ToZone.{destination}
use Rattle.skims.specs.Leasts.{AreFrom}
use Rattle.skims.proofs.leasts.leasts_from_each.Given as goal

abbrev pub invariant-loop-origin : goal.invariant-loop-origin
invariant-loop-origin l =
    AreFrom (timing_of l.labels.costs) l.labels.net (take l.origin (zones l.labels.net.nodes))
    (destination l.labels l.place) l.start l.leasts.items
