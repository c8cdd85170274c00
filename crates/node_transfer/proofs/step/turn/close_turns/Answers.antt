use Rattle.std.proofs.Common.{◌∙◌, sym, arith}
use Rattle.node_transfer.specs.Exits.{closed_turn}
use Rattle.node_transfer.proofs.OfStep.Maps.{map_step, map_end}
use Rattle.node_transfer.proofs.step.turn.close_turns.Goals as goal

pub loop-i-preserved : goal.loop-i-preserved
loop-i-preserved c = map_step (closed_turn) c.loop-i.turns c.loop-i.i c.close_turn.new.turn c.index-turns-i.result (omega arith) c.close_turn.ensures ∙ c.loop-i.invariant

pub returns : goal.returns
returns c = sym (map_end (closed_turn) c.loop-i.turns c.loop-i.i (omega arith)) ∙ c.loop-i.invariant
