use Rattle.std.proofs.Common.{◌≡◌, min, take}
use Rattle.std.specs.List.{sum_by}
use Rattle.node_transfer.specs.Inside.Lengths.{waiting_length}
use Rattle.node_transfer.specs.declared.counts.TheConstants.{MOST_COUNT}
use Rattle.node_transfer.proofs.counts.count_waiting.Given as goal

abbrev pub invariant-loop-out : goal.invariant-loop-out
invariant-loop-out l = l.count ≡ min (sum_by waiting_length (take l.out-index l.outs)) MOST_COUNT
