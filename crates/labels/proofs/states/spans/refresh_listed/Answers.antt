use Rattle.std.proofs.Common.{◌<◌, ◌+◌, drop, length, arith, get_or, refl, subst}
use Rattle.std.proofs.lemmas.List.{drop_more}
use Rattle.trip_costs.specs.WalkCosts.{steps_in}
use Rattle.labels.specs.States.Spans.{AreSpansBut, IsSpan}
use Rattle.labels.specs.declared.states.onward.Onward.{Onward}
use Rattle.labels.specs.declared.states.spans.Span.{Span}
use Rattle.labels.proofs.OfStates.SpanFacts.{but_fewer}
use Rattle.labels.proofs.states.spans.refresh_listed.Goals as goal

pub loop-turn-preserved : goal.loop-turn-preserved
loop-turn-preserved c =
    let at = steps_in c.args.costs in
    let e = c.args.step in
    let ways = c.args.router.now.ways.items in
    let places = c.args.places.now in
    let way : Onward = c.index.result.now in
    let s : Span = record { time = c.span_of.result; to = way.to } in
    let place = get_or c.args.places.now c.loop-turn.turn 0 in
    let turns : c.loop-turn.turn < length c.args.places.now = omega (arith, c.loop-turn-test.true) in
    but_fewer at e ways (drop (c.loop-turn.turn + 1) places) c.loop-turn.spans place s way (c.requires.inside c.loop-turn.turn 0 turns)
    (subst (λ w. IsSpan at e w s) c.index.ensures (c.span_of.ensures.is, refl))
    (subst (λ xs. AreSpansBut at e ways xs c.loop-turn.spans) (drop_more places c.loop-turn.turn 0 turns) c.loop-turn.invariant)
