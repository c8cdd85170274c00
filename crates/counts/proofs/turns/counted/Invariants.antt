use Rattle.std.specs.Prelude.{All}
use Rattle.std.proofs.Common.{◌≤◌, take}
use Rattle.counts.specs.Inside.Turns.{AreTurnCounts}
use Rattle.counts.proofs.turns.counted.Given as goal

abbrev pub invariant-loop-turn : goal.invariant-loop-turn
invariant-loop-turn l =
    AreTurnCounts l.turns (take l.turn-index l.turns) l.counts.items × All (λ c. c.vehicles ≤ l.turn-index) l.counts.items
