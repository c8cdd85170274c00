use Rattle.std.proofs.Common.{◌∙◌, arith}
use Rattle.node_transfer.specs.Gathered.{gathered_link}
use Rattle.node_transfer.specs.Inside.Cells.{CanGather}
use Rattle.node_transfer.proofs.OfStep.Maps.{map_step, all_next}
use Rattle.node_transfer.proofs.step.in_link.gather_links.Goals as goal

pub loop-i-preserved : goal.loop-i-preserved
loop-i-preserved c = (
  all_next CanGather c.loop-i.ins c.loop-i.i c.gather_link.new.link c.loop-i.invariant.0,
  map_step (gathered_link c.args.step) c.loop-i.ins c.loop-i.i c.gather_link.new.link c.index-ins-i.result (omega arith) c.gather_link.ensures ∙ c.loop-i.invariant.1,
)
