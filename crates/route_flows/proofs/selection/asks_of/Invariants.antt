use Rattle.route_flows.specs.Asked.{AreAsked, takes}
use Rattle.route_flows.proofs.selection.asks_of.Given as goal

abbrev pub invariant-loop-v : goal.invariant-loop-v
invariant-loop-v l = AreAsked (takes l.change) l.routes l.v l.asks.items
