use Rattle.trip_costs.specs.Timings.{Links}
use Rattle.std.proofs.Common.{◌≤◌, ◌-◌, take, length}
use Rattle.net_core.specs.Network.{zones}
use Rattle.dta_model.specs.LinkTimes.{time_at}
use Rattle.skims.specs.Leasts.{AreBetween}
use Rattle.skims.proofs.leasts.leasts_to_each.Given as goal

abbrev pub invariant-loop-first : goal.invariant-loop-first
invariant-loop-first l = record {
  so_far : AreBetween (Links (time_at l.times)) l.net l.starts (take l.first (zones l.net.nodes))
      l.to_each.items;
  within : l.first ≤ length (zones l.net.nodes);
}

abbrev pub decreases-loop-first : goal.decreases-loop-first
decreases-loop-first l = length (zones l.net.nodes) - l.first
