use Rattle.std.proofs.Common.{◌≡◌, min, take}
use Rattle.std.specs.List.{sum_by}
use Rattle.node_transfer.specs.Inside.Lengths.{line_length}
use Rattle.node_transfer.specs.declared.counts.TheConstants.{MOST_COUNT}
use Rattle.node_transfer.proofs.counts.count_running.Given as goal

abbrev pub invariant-loop-link : goal.invariant-loop-link
invariant-loop-link l = l.count ≡ min (sum_by line_length (take l.link-index l.ins)) MOST_COUNT
