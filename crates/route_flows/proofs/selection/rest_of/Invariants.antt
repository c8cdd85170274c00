use Rattle.std.proofs.Common.{◌≡◌, take}
use Rattle.route_flows.specs.Starting.{asks_for_rest}
use Rattle.route_flows.proofs.selection.rest_of.Given as goal

abbrev pub invariant-loop-walk : goal.invariant-loop-walk
invariant-loop-walk l = l.asks.items ≡ asks_for_rest (take l.walk-index l.walks)
