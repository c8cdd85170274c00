use Rattle.std.proofs.Common.{length, get_or, take, arith}
use Rattle.std.specs.Prelude.{None}
use Rattle.std.proofs.lemmas.Grind.{common_steps}
use Rattle.std.proofs.lemmas.List.{take_more}
use Rattle.net_core.specs.ByNode.{node_of}
use Rattle.net_core.specs.Rows.{IsBetween}
use Rattle.net_core.specs.declared.rows.TurnRow.{TurnRow}
use Rattle.net_core.proofs.ByNodeFacts.{named-more}
use Rattle.net_core.proofs.RowsFacts.{link_in-all}
use Rattle.net_core.proofs.by_node.named_nodes.Goals as goal

abbrev no_turn : TurnRow
no_turn = record { a = record { 0 = 0 }; b = record { 0 = 0 }; penalty = 0; rate = None }

pub row-requires : goal.row-requires
row-requires c = (c.requires.turning c.loop-turn.turn-index no_turn c.loop-turn-test.true).from

pub index_mut-requires : goal.index_mut-requires
index_mut-requires c =
    let place = c.loop-turn.turn-index in
    let turning = c.requires.turning place no_turn c.loop-turn-test.true in
    let between = link_in-all (IsBetween c.args.nodes.now) c.args.links.now (get_or c.args.turns.now place no_turn).a.0 turning.from c.requires.between in
    rw c.row.ensures (grind (arith, common_steps, between.to, c.loop-turn.invariant.counted))

pub loop-turn-preserved : goal.loop-turn-preserved
loop-turn-preserved c =
    let place = c.loop-turn.turn-index in
    let turning = c.requires.turning place no_turn c.loop-turn-test.true in
    let between = link_in-all (IsBetween c.args.nodes.now) c.args.links.now (get_or c.args.turns.now place no_turn).a.0 turning.from c.requires.between in
    rw (c.row.ensures, take_more c.args.turns.now place no_turn c.loop-turn-test.true)
    (named-more c.loop-turn.named.items (length c.args.nodes.now) (node_of c.args.links.now) (take place c.args.turns.now) (get_or c.args.turns.now place no_turn) between.to c.loop-turn.invariant)
