use Rattle.std.proofs.Common.{◌≡◌, take, []}
use Rattle.std.specs.Prelude.{fold}
use Rattle.net_core.specs.Network.{noted}
use Rattle.net_core.proofs.zones.zones_of.Given as goal

abbrev pub invariant-loop-node : goal.invariant-loop-node
invariant-loop-node l = l.found ≡ fold (λ found node. noted found node.zone) [] (take l.node-index l.nodes)
