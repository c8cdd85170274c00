use Rattle.std.proofs.Common.{◌≡◌, map}
use Rattle.node_transfer.specs.Exits.{opened_turn}
use Rattle.node_transfer.proofs.OfStep.Maps.{mapped_from}
use Rattle.node_transfer.proofs.step.turn.open_turns.Given as goal

abbrev pub invariant-loop-i : goal.invariant-loop-i
invariant-loop-i l = mapped_from (opened_turn l.step) l.i l.turns ≡ map (opened_turn l.step) l.initial.turns
