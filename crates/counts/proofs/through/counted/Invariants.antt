use Rattle.std.specs.Prelude.{All}
use Rattle.std.proofs.Common.{◌≤◌, take}
use Rattle.counts.specs.Inside.Pairs.{ArePairCounts}
use Rattle.counts.proofs.through.counted.Given as goal

abbrev pub invariant-loop-pair : goal.invariant-loop-pair
invariant-loop-pair l =
    ArePairCounts l.pairs (take l.pair-index l.pairs) l.counts.items × All (λ c. c.vehicles ≤ l.pair-index) l.counts.items
