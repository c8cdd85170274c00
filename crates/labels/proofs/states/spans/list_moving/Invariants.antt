use Rattle.labels.specs.States.Spans.{AreMovingTo}
use Rattle.labels.proofs.states.spans.list_moving.Given as goal

abbrev pub invariant-loop-place : goal.invariant-loop-place
invariant-loop-place l = AreMovingTo l.costs l.bucket l.router.ways.items l.moving.items l.place
