use Rattle.std.proofs.Common.{◌≡◌, take}
use Rattle.link_times.proofs.means.narrowed.Given as goal

abbrev pub invariant-loop-count : goal.invariant-loop-count
invariant-loop-count l = l.narrow.items ≡ take l.count-index l.counts
