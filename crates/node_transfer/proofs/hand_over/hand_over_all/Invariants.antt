use Rattle.std.proofs.Common.{◌≡◌, length}
use Rattle.std.specs.List.{flat_map}
use Rattle.std.specs.Prelude.{All}
use Rattle.std.specs.Vec.Iter.{into_iter_items, into_iter_len}
use Rattle.node_transfer.specs.Hand.{Within, handed, riders_in}
use Rattle.node_transfer.proofs.hand_over.hand_over_all.Given as goal

abbrev pub invariant-loop-cell : goal.invariant-loop-cell
invariant-loop-cell l =
    All (Within (length l.loaded)) (flat_map riders_in (into_iter_items l.cell-iterator))
    × (handed (flat_map riders_in (into_iter_items l.initial.cell-iterator)) l.initial.loaded
    ≡ handed (flat_map riders_in (into_iter_items l.cell-iterator)) l.loaded)
    × (into_iter_len l.cell-iterator ≡ length (into_iter_items l.cell-iterator))
