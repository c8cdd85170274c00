use Rattle.link_queues.specs.declared.line.TheConstants.{MOST_RIDERS}
use Rattle.std.proofs.Common.{◌≡◌, ◌≤◌, drop, map}
use Rattle.std.specs.Prelude.{All}
use Rattle.node_transfer.specs.Inside.Pass.{held}
use Rattle.node_transfer.specs.Inside.Outs.{opened_out}
use Rattle.node_transfer.proofs.OfStep.Maps.{mapped_from}
use Rattle.node_transfer.proofs.step.out_link.open_outs.Given as goal

abbrev pub invariant-loop-i : goal.invariant-loop-i
invariant-loop-i l = All (λ o. held o ≤ MOST_RIDERS) (drop l.i l.outs) × (mapped_from (opened_out l.step) l.i l.outs ≡ map (opened_out l.step) l.initial.outs)
