use Rattle.trip_costs.specs.Timings.{Links}
use Rattle.std.proofs.Common.{◌+◌, take}
use Rattle.net_core.specs.Network.{zones}
use Rattle.dta_model.specs.LinkTimes.{time_at}
use Rattle.skims.specs.Leasts.{AreBetween}
use Rattle.skims.proofs.leasts.add_group.Given as goal

abbrev pub invariant-loop-place : goal.invariant-loop-place
invariant-loop-place l =
    AreBetween (Links (time_at l.times)) l.net l.starts (take (l.first + l.place) (zones l.net.nodes))
    l.to_each.items
