use Rattle.std.proofs.Common.{◌∙◌, sym, arith}
use Rattle.node_transfer.specs.Exits.{opened_turn}
use Rattle.node_transfer.proofs.OfStep.Maps.{map_step, map_end}
use Rattle.node_transfer.proofs.step.turn.open_turns.Goals as goal

pub loop-i-preserved : goal.loop-i-preserved
loop-i-preserved c = map_step (opened_turn c.args.step) c.loop-i.turns c.loop-i.i c.open_turn.new.turn c.index-turns-i.result (omega arith) c.open_turn.ensures ∙ c.loop-i.invariant

pub returns : goal.returns
returns c = sym (map_end (opened_turn c.args.step) c.loop-i.turns c.loop-i.i (omega arith)) ∙ c.loop-i.invariant
