use Rattle.std.proofs.Common.{◌≡◌, ◌≤◌, true, sym, ◌∙◌, arith, cond, subst}
use Rattle.std.specs.BinaryHeap.{heap_items}
use Rattle.labels.specs.Filling.FreeFlow.{still_least, value}
use Rattle.labels.specs.States.RouterWays.{is_own, onwards}
use Rattle.labels.proofs.OfFilling.FallingFacts.{IsFalling_lower, IsFalling_next}
use Rattle.labels.proofs.filling.free_flow.begin_at.Goals as goal

pub returns-in_ok-lower : goal.returns-in_ok-lower
returns-in_ok-lower c =
    let r = c.args.to.now.router.now in
    let free = c.args.to.now.free.now in
    let zone = c.args.to.now.zone in
    let backs = c.args.to.now.back.now.ways.items in
    let tail = c.args.tail.now in
    let state = c.args.state in
    let own : is_own r zone state ≡ true = sym c.is_in.ensures ∙ c.if-is_in.true in
    let ought : value free r zone tail state ≤ 0 = subst (λ b. cond b 0 (still_least tail free (onwards r state)) ≤ 0) (sym own) (omega arith) in
    let low = IsFalling_lower r free zone backs (heap_items c.args.heap.now) (heap_items c.lower.new.heap) tail c.lower.new.tail state 0 0 state 0 c.requires.state ought (λ some. omega arith) c.in_ok-lower.ensures c.requires.falling in
    IsFalling_next r free zone backs (heap_items c.lower.new.heap) c.lower.new.tail state (λ is. omega (arith, low.1)) (low.0)
