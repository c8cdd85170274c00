use Rattle.std.proofs.Common.{◌<◌, length, arith, refl, subst}
use Rattle.trip_costs.specs.WalkCosts.{steps_in}
use Rattle.labels.specs.States.Spans.{IsSpan}
use Rattle.labels.specs.declared.states.onward.Onward.{Onward}
use Rattle.labels.specs.declared.states.spans.Span.{Span}
use Rattle.labels.proofs.OfStates.SpanFacts.{IsSpansTo_more}
use Rattle.labels.proofs.states.spans.refresh.Goals as goal

pub loop-place-preserved : goal.loop-place-preserved
loop-place-preserved c =
    let at = steps_in c.args.costs in
    let ways = c.args.router.now.ways.items in
    let way : Onward = c.index.result.now in
    let s : Span = record { time = c.span_of.result; to = way.to } in
    let small : c.loop-place.place < length ways = omega (arith, c.loop-place-test.true, c.len-place-end.ensures) in
    IsSpansTo_more at c.args.step ways c.loop-place.spans c.loop-place.place s way small
    (subst (λ w. IsSpan at c.args.step w s) c.index.ensures (c.span_of.ensures.is, refl)) c.loop-place.invariant
