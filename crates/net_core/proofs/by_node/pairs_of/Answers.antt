use Rattle.std.specs.Prelude.{None}
use Rattle.net_core.specs.declared.rows.TurnRow.{TurnRow}
use Rattle.net_core.proofs.PairsFacts.{pair-new}
use Rattle.net_core.proofs.by_node.pairs_of.Goals as goal

abbrev no_turn : TurnRow
no_turn = record { a = record { 0 = 0 }; b = record { 0 = 0 }; penalty = 0; rate = None }

pub add-requires : goal.add-requires
add-requires c =
    rw c.loop-turn.invariant
    (pair-new c.args.turns.now c.loop-turn.turn-index no_turn c.loop-turn-test.true c.requires)
