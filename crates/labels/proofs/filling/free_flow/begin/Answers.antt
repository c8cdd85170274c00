use Rattle.std.proofs.Common.{[], sym, subst}
use Rattle.labels.specs.Filling.Falling.{IsFalling}
use Rattle.labels.proofs.OfFilling.FallingFacts.{IsFalling_start}
use Rattle.labels.proofs.filling.free_flow.begin.Goals as goal

pub loop-state-init : goal.loop-state-init
loop-state-init c =
    let r = c.args.to.now.router.now in
    let free = c.args.to.now.free.now in
    let zone = c.args.to.now.zone in
    let backs = c.args.to.now.back.now.ways.items in
    subst (λ heap. IsFalling r free zone backs heap c.args.tail.now 0 0 0) (sym c.requires.heap)
    (subst (λ tail. IsFalling r free zone backs [] tail 0 0 0) (sym c.requires.tail) (IsFalling_start r free zone backs c.args.to.now.back.now.lasts.items c.requires.back))
