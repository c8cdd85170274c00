use Rattle.link_queues.specs.declared.line.TheConstants.{MOST_RIDERS}
use Rattle.std.proofs.Common.{◌≡◌, ◌+◌, ◌≤◌, length}
use Rattle.node_transfer.specs.Inside.Outs.{released}
use Rattle.node_transfer.proofs.step.out_link.release.Given as goal

abbrev pub invariant-loop : goal.invariant-loop
invariant-loop l = (length l.later + length l.due ≤ MOST_RIDERS) × (released l.step l.initial.later l.initial.due ≡ released l.step l.later l.due)

abbrev pub decreases-loop : goal.decreases-loop
decreases-loop l = length l.later
