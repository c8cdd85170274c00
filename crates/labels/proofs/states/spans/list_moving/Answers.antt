use Rattle.std.proofs.Common.{◌<◌, ◌+◌, arith, length, subst, sym}
use Rattle.labels.specs.States.Spans.{AreMovingTo, IsStill}
use Rattle.labels.proofs.OfStates.SpanFacts.{moving_listed, moving_still}
use Rattle.labels.proofs.states.spans.list_moving.Goals.{then-not-is_still+in_ok-push, else-not-is_still}
use Rattle.labels.proofs.states.spans.list_moving.Goals as goal

pub loop-place-preserved : goal.loop-place-preserved
loop-place-preserved c =
    let costs = c.args.costs in
    let bucket = c.args.bucket in
    let ways = c.args.router.now.ways.items in
    let old = c.loop-place.moving.items in
    let place = c.loop-place.place in
    let small : c.loop-place.place < length c.args.router.now.ways.items = omega (arith, c.loop-place-test.true, c.len-place-end.ensures) in
    elim c.if-not-is_still.branch [
      | then-not-is_still+in_ok-push w ↦ subst (λ v. AreMovingTo costs bucket ways v.items (place + 1)) (sym w.moving-is)
          (subst (λ xs. AreMovingTo costs bucket ways xs (place + 1)) (sym w.in_ok-push.ensures.items) (moving_listed costs bucket ways old place small c.loop-place.invariant))
      | else-not-is_still w ↦ subst (λ v. AreMovingTo costs bucket ways v.items (place + 1)) (sym w.moving-is)
          (moving_still costs bucket ways old place c.index.result.now small (subst (λ way. IsStill costs bucket way) c.index.ensures (c.is_still.ensures w.if-not-is_still.false)) c.loop-place.invariant)
    ]
