use Rattle.std.proofs.Common.{◌≡◌, take}
use Rattle.gap.specs.Told.{asks_for}
use Rattle.gap.proofs.measure.asks_of.Given as goal

abbrev pub invariant-loop-route : goal.invariant-loop-route
invariant-loop-route l = l.asks.items ≡ asks_for (take l.route-index l.routes)
