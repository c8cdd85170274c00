use Rattle.std.proofs.Common.{◌<◌, ◌^◌, take}
use Rattle.std.specs.Prelude.{All}
use Rattle.link_times.proofs.means.are_narrow.Given as goal

abbrev pub invariant-loop-count : goal.invariant-loop-count
invariant-loop-count l = All (λ n. n < 2 ^ 32) (take l.count-index l.counts)
