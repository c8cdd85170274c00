use Rattle.trip_costs.specs.WalkCosts.{steps_in}
use Rattle.labels.specs.States.Spans.{IsSpansTo}
use Rattle.labels.proofs.states.spans.refresh.Given as goal

abbrev pub invariant-loop-place : goal.invariant-loop-place
invariant-loop-place l = IsSpansTo (steps_in l.costs) l.step l.router.ways.items l.spans l.place
