use Rattle.link_queues.specs.declared.line.TheConstants.{MOST_RIDERS}
use Rattle.std.proofs.Common.{◌≤◌, ◌∙◌, sym, arith}
use Rattle.node_transfer.specs.Inside.Pass.{held}
use Rattle.node_transfer.specs.Inside.Outs.{opened_out}
use Rattle.node_transfer.proofs.OfStep.Maps.{map_step, map_end, all_next}
use Rattle.node_transfer.proofs.step.out_link.open_outs.Goals as goal

pub loop-i-preserved : goal.loop-i-preserved
loop-i-preserved c = (
  all_next (λ o. held o ≤ MOST_RIDERS) c.loop-i.outs c.loop-i.i c.open_out.new.out c.loop-i.invariant.0,
  map_step (opened_out c.args.step) c.loop-i.outs c.loop-i.i c.open_out.new.out c.index-outs-i.result (omega arith) c.open_out.ensures ∙ c.loop-i.invariant.1,
)

pub returns : goal.returns
returns c = sym (map_end (opened_out c.args.step) c.loop-i.outs c.loop-i.i (omega arith)) ∙ c.loop-i.invariant.1
