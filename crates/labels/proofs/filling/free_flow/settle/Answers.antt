use Rattle.std.proofs.Common.{◌≡◌, length, arith}
use Rattle.std.specs.BinaryHeap.{heap_items}
use Rattle.labels.proofs.OfFilling.FallingFacts.{IsFalling_done, IsFalling_pop}
use Rattle.labels.proofs.filling.free_flow.settle.Goals as goal

pub returns-in-None-clause-settled : goal.returns-in-None-clause-settled
returns-in-None-clause-settled c =
    let long = c.each.heap.data.ok.0 in
    let none : length (heap_items c.each.heap) ≡ 0 = omega (arith, long, c.in-None.ensures.none) in
    IsFalling_done c.args.to.now.router.now c.args.to.now.free.now c.args.to.now.zone c.args.to.now.back.now.ways.items c.args.to.now.back.now.lasts.items c.requires.back (heap_items c.each.heap) c.each.tail 0 none c.each.invariant

pub look_at-requires-clause-falling : goal.look_at-requires-clause-falling
look_at-requires-clause-falling c =
    (IsFalling_pop c.args.to.now.router.now c.args.to.now.free.now c.args.to.now.zone c.args.to.now.back.now.ways.items c.args.to.now.back.now.lasts.items c.requires.back (heap_items c.each.heap) (heap_items c.pop.new.self) c.in-Some.first c.each.tail (length c.args.to.now.router.now.zones.items) 0 c.in-Some.ensures.permutation c.each.invariant).1
