use Rattle.std.proofs.Common.{◌≡◌}
use Rattle.dta_model.specs.Lent.{plan_of}
use Rattle.node_transfer.specs.Inside.StartLines.{lines_below}
use Rattle.node_transfer.proofs.start.lines.put_riders.Given as goal

abbrev pub invariant-loop-v : goal.invariant-loop-v
invariant-loop-v l = l.lines ≡ lines_below (plan_of l.loading) l.v
