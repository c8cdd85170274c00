use Rattle.std.specs.List.{flat_map}
use Rattle.std.proofs.Common.{◌≡◌, length, drop}
use Rattle.std.specs.Prelude.{All}
use Rattle.node_transfer.specs.Hand.{Within, handed}
use Rattle.node_transfer.proofs.hand_over.hand_links.Given as goal

abbrev pub invariant-loop-i : goal.invariant-loop-i
invariant-loop-i g l =
    All (Within (length l.initial.loaded)) (flat_map g.T.HasRiders.riders (drop l.i l.links))
    × (length l.loaded ≡ length l.initial.loaded)
    × (handed (flat_map g.T.HasRiders.riders l.initial.links) l.initial.loaded ≡ handed (flat_map g.T.HasRiders.riders (drop l.i l.links)) l.loaded)
