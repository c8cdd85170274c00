use Rattle.std.proofs.Common.{◌≡◌, ◌+◌, ◌-◌, ◌≤◌, length, drop}
use Rattle.node_transfer.specs.Inside.Pass.{place_of, turn_links}
use Rattle.node_transfer.proofs.step.turn.turn_to.Given as goal

abbrev pub invariant-loop-place : goal.invariant-loop-place
invariant-loop-place l = (l.place ≤ length l.turns) × (place_of l.link.0 (turn_links l.turns) ≡ l.place + place_of l.link.0 (drop l.place (turn_links l.turns)))

abbrev pub decreases-loop-place : goal.decreases-loop-place
decreases-loop-place l = length l.turns - l.place
