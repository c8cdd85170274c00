use Rattle.link_queues.specs.declared.line.TheConstants.{MOST_RIDERS}
use Rattle.std.proofs.Common.{◌≤◌, ◌∙◌, sym, arith}
use Rattle.std.specs.Prelude.{All}
use Rattle.node_transfer.specs.Inside.Pass.{held}
use Rattle.node_transfer.specs.Inside.Outs.{closed_out}
use Rattle.node_transfer.specs.Inside.Cells.{UnderWay}
use Rattle.node_transfer.proofs.OfStep.Maps.{map_step, map_end, all_next}
use Rattle.node_transfer.proofs.step.out_link.close_outs.Goals as goal

pub loop-i-preserved : goal.loop-i-preserved
loop-i-preserved c = (
  all_next (λ o. held o ≤ MOST_RIDERS) c.loop-i.outs c.loop-i.i c.close_out.new.out c.loop-i.invariant.0,
  all_next (λ o. All UnderWay o.waiting.due) c.loop-i.outs c.loop-i.i c.close_out.new.out c.loop-i.invariant.1,
  map_step (closed_out c.args.step) c.loop-i.outs c.loop-i.i c.close_out.new.out c.index-outs-i.result (omega arith) c.close_out.ensures ∙ c.loop-i.invariant.2,
)

pub returns : goal.returns
returns c = sym (map_end (closed_out c.args.step) c.loop-i.outs c.loop-i.i (omega arith)) ∙ c.loop-i.invariant.2
