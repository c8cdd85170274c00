use Rattle.std.proofs.Common.{arith}
use Rattle.node_transfer.proofs.OfStep.Maps.{place_step, place_here, place_none}
use Rattle.node_transfer.proofs.step.turn.turn_to.Goals as goal

pub loop-place-preserved : goal.loop-place-preserved
loop-place-preserved c =
    let e = place_step (λ x. x.to.0) c.args.link.0 c.args.turns.now c.loop-place.place c.index-turns-place.result (omega arith) c.if-turns-place.true in
    let h = c.loop-place.invariant in
    (omega arith, omega (arith, h.1, e))

pub returns-else-turns-place : goal.returns-else-turns-place
returns-else-turns-place c =
    let e = place_here (λ x. x.to.0) c.args.link.0 c.args.turns.now c.loop-place.place c.index-turns-place.result (omega arith) c.if-turns-place.false in
    let h = c.loop-place.invariant in
    omega (arith, h.1, e)

pub returns-after-loop-place : goal.returns-after-loop-place
returns-after-loop-place c =
    let e = place_none (λ x. x.to.0) c.args.link.0 c.args.turns.now c.loop-place.place (omega arith) in
    let h = c.loop-place.invariant in
    omega (arith, h.1, e)
