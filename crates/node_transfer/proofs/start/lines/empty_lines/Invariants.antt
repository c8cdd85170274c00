use Rattle.std.proofs.Common.{◌≡◌}
use Rattle.node_transfer.specs.Inside.StartLines.{empty_lines}
use Rattle.node_transfer.proofs.start.lines.empty_lines.Given as goal

abbrev pub invariant-loop-b : goal.invariant-loop-b
invariant-loop-b l = l.lines.items ≡ empty_lines l.b
