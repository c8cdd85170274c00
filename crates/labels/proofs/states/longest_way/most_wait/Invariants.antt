use Rattle.std.proofs.Common.{◌≤◌, ◌<◌, ℕ}
use Rattle.std.specs.Prelude.{slice_index_or}
use Rattle.fixed_units.specs.declared.turn.TheConstants.{MOST_PENALTY_STEPS}
use Rattle.labels.specs.declared.states.onward.Onward.{Onward}
use Rattle.labels.proofs.states.longest_way.most_wait.Given as goal

abbrev pub invariant-loop-place : goal.invariant-loop-place
invariant-loop-place l = ((k : ℕ) (d : Onward) → k < l.place → (slice_index_or l.router.ways.items k d).wait ≤ l.most) × (l.most ≤ MOST_PENALTY_STEPS)
