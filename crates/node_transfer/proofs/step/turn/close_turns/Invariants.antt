use Rattle.std.proofs.Common.{◌≡◌, map}
use Rattle.node_transfer.specs.Exits.{closed_turn}
use Rattle.node_transfer.proofs.OfStep.Maps.{mapped_from}
use Rattle.node_transfer.proofs.step.turn.close_turns.Given as goal

abbrev pub invariant-loop-i : goal.invariant-loop-i
invariant-loop-i l = mapped_from closed_turn l.i l.turns ≡ map closed_turn l.initial.turns
