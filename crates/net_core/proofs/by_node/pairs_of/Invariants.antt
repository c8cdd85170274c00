use Rattle.std.proofs.Common.{◌≡◌, take}
use Rattle.net_core.specs.Rows.{turn_pairs}
use Rattle.net_core.proofs.by_node.pairs_of.Given as goal

abbrev pub invariant-loop-turn : goal.invariant-loop-turn
invariant-loop-turn l = l.pairs ≡ turn_pairs (take l.turn-index l.turns)
