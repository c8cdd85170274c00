use Rattle.link_queues.specs.declared.line.TheConstants.{MOST_RIDERS}
use Rattle.std.proofs.Common.{◌≡◌, ◌+◌, ◌≤◌, length, None}
use Rattle.std.specs.Prelude.{All}
use Rattle.node_transfer.specs.Inside.Outs.{admitted}
use Rattle.node_transfer.proofs.step.out_link.admit.Given as goal

abbrev pub invariant-loop : goal.invariant-loop
invariant-loop l = (length l.due + length l.batch ≤ MOST_RIDERS) × All (λ r. r.arrival ≡ None) l.due × (admitted l.step l.initial.due l.initial.batch l.initial.meter ≡ admitted l.step l.due l.batch l.meter)

abbrev pub decreases-loop : goal.decreases-loop
decreases-loop l = length l.due
