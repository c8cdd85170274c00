use Rattle.std.proofs.Common.{drop}
use Rattle.trip_costs.specs.WalkCosts.{steps_in}
use Rattle.labels.specs.States.Spans.{AreSpansBut}
use Rattle.labels.proofs.states.spans.refresh_listed.Given as goal

abbrev pub invariant-loop-turn : goal.invariant-loop-turn
invariant-loop-turn l = AreSpansBut (steps_in l.costs) l.step l.router.ways.items (drop l.turn l.places) l.spans
