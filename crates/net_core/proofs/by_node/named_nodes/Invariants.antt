use Rattle.std.proofs.Common.{length, take}
use Rattle.net_core.specs.ByNode.{AreNamed, node_of}
use Rattle.net_core.proofs.by_node.named_nodes.Given as goal

abbrev pub invariant-loop-turn : goal.invariant-loop-turn
invariant-loop-turn l = AreNamed l.named.items (length l.nodes) (node_of l.links) (take l.turn-index l.turns)
