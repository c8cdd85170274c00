use Rattle.std.proofs.Common.{subst, sym}
use Rattle.trip_costs.specs.WalkCosts.{steps_in}
use Rattle.labels.specs.States.Spans.{AreSpansBut}
use Rattle.labels.proofs.OfStates.SpanFacts.{but_moving, moving_before}
use Rattle.labels.proofs.states.spans.keep.Goals as goal

pub refresh_listed-requires-clause-others : goal.refresh_listed-requires-clause-others
refresh_listed-requires-clause-others c =
    let before = c.is_last.ensures.before c.if-is_last.false in
    subst (λ xs. AreSpansBut (steps_in c.args.costs) c.args.step c.args.router.now.ways.items xs c.args.spans.now) (sym c.as_slice.ensures.value)
    (but_moving c.args.costs c.args.step c.args.router.now.ways.items c.args.moving.now.items c.args.spans.now c.is_last.ensures.bucket before (c.is_last.ensures.within c.if-is_last.false) (c.requires.moving before) (c.requires.next before))

pub returns-clause-moving : goal.returns-clause-moving
returns-clause-moving c =
    let before = c.is_last.ensures.before c.if-is_last.false in
    moving_before c.args.costs c.args.step c.args.router.now.ways.items c.args.moving.now.items c.is_last.ensures.bucket (c.is_last.ensures.within c.if-is_last.false) (c.requires.moving before)
