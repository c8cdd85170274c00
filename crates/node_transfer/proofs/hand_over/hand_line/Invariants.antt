use Rattle.std.proofs.Common.{◌≡◌, length}
use Rattle.std.specs.Prelude.{All}
use Rattle.node_transfer.specs.Hand.{Within, handed}
use Rattle.node_transfer.proofs.hand_over.hand_line.Given as goal

abbrev pub invariant-loop : goal.invariant-loop
invariant-loop l = All (Within (length l.loaded)) l.line × (length l.loaded ≡ length l.initial.loaded) × (handed l.initial.line l.initial.loaded ≡ handed l.line l.loaded)

abbrev pub decreases-loop : goal.decreases-loop
decreases-loop l = length l.line
