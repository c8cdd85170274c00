use Rattle.std.proofs.Common.{◌≡◌, ◌+◌, ◌-◌, ◌<◌, length, ap, sym, ◌∙◌, arith, refl, subst, Some}
use Rattle.std.specs.Prelude.{slice_get}
use Rattle.std.specs.BinaryHeap.{heap_items}
use Rattle.std.proofs.lemmas.Option.{slice_get_read}
use Rattle.labels.specs.Filling.Falling.{IsFalling, mark_of}
use Rattle.labels.proofs.OfFilling.FallingFacts.{look_room, look_start, look_step, IsFalling_whole}
use Rattle.labels.proofs.filling.free_flow.look_at.Goals as goal

pub loop-count-init : goal.loop-count-init
loop-count-init c =
    let r = c.args.to.now.router.now in
    let free = c.args.to.now.free.now in
    let backs = c.args.to.now.back.now.ways.items in
    let lasts = c.args.to.now.back.now.lasts.items in
    let tail = c.args.tail.now in
    let is : c.ways_to-count.result ≡ mark_of lasts tail c.args.reached = c.ways_to-count.ensures ∙ ap (λ l. mark_of l tail c.args.reached) c.as_slice.ensures.value in
    let within = c.requires.state in
    let s = look_start r free c.args.to.now.zone backs lasts c.requires.back tail c.args.reached c.ways_to-count.result is (omega (arith, within, c.requires.falling.many, c.requires.back.many)) in record {
      falling = subst (λ n. IsFalling r free c.args.to.now.zone backs (heap_items c.args.heap.now) tail (length r.zones.items) c.args.reached.state n) (sym is) c.requires.falling;
      less = omega arith;
      left = s.0;
      within = s.1;
      last = s.2;
    }

pub overflow_add-reached : goal.overflow_add-reached
overflow_add-reached c =
    let i = c.loop-count.invariant in
    let count = c.loop-count.count in
    let b = c.index-way.result.now in
    let inside : count - 1 < length c.args.to.now.back.now.ways.items = (let w = i.within in omega (arith, w, c.loop-count-test.true)) in
    let stands : slice_get c.args.to.now.back.now.ways.items (count - 1) ≡ Some b = slice_get_read c.args.to.now.back.now.ways.items _ (count - 1) b refl inside c.index-way.ensures in
    let room = look_room c.args.to.now.router.now c.args.to.now.free.now c.args.to.now.zone c.args.to.now.back.now.ways.items c.args.to.now.back.now.lasts.items c.requires.back (heap_items c.loop-count.heap) c.loop-count.tail (length c.args.to.now.router.now.zones.items) c.args.reached.state count (count - 1) b c.args.reached.left stands (i.left c.loop-count-test.true) i.falling in
    omega (arith, room.1)

pub lower-requires : goal.lower-requires
lower-requires c =
    let i = c.loop-count.invariant in
    let count = c.loop-count.count in
    let b = c.index-way.result.now in
    let inside : count - 1 < length c.args.to.now.back.now.ways.items = (let w = i.within in omega (arith, w, c.loop-count-test.true)) in
    let stands : slice_get c.args.to.now.back.now.ways.items (count - 1) ≡ Some b = slice_get_read c.args.to.now.back.now.ways.items _ (count - 1) b refl inside c.index-way.ensures in
    let room = look_room c.args.to.now.router.now c.args.to.now.free.now c.args.to.now.zone c.args.to.now.back.now.ways.items c.args.to.now.back.now.lasts.items c.requires.back (heap_items c.loop-count.heap) c.loop-count.tail (length c.args.to.now.router.now.zones.items) c.args.reached.state count (count - 1) b c.args.reached.left stands (i.left c.loop-count-test.true) i.falling in
    omega (arith, room.0)

pub loop-count-smaller : goal.loop-count-smaller
loop-count-smaller c =
    let count = c.loop-count.count in
    let b = c.index-way.result.now in
    let inside : count - 1 < length c.args.to.now.back.now.ways.items = (let w = c.loop-count.invariant.within in omega (arith, w, c.loop-count-test.true)) in
    let stands : slice_get c.args.to.now.back.now.ways.items (count - 1) ≡ Some b = slice_get_read c.args.to.now.back.now.ways.items _ (count - 1) b refl inside c.index-way.ensures in
    let h = c.requires.back.chained (count - 1) b stands in
    let before = h.within in
    omega (arith, before, c.loop-count-test.true)

pub loop-count-preserved : goal.loop-count-preserved
loop-count-preserved c =
    let r = c.args.to.now.router.now in
    let backs = c.args.to.now.back.now.ways.items in
    let i = c.loop-count.invariant in
    let count = c.loop-count.count in
    let b = c.index-way.result.now in
    let place : (count - 1) + 1 ≡ count = omega (arith, c.loop-count-test.true) in
    let inside : count - 1 < length backs = (let w = i.within in omega (arith, w, c.loop-count-test.true)) in
    let stands : slice_get backs (count - 1) ≡ Some b = slice_get_read backs _ (count - 1) b refl inside c.index-way.ensures in
    let seen : c.args.reached.state < length c.loop-count.tail = (let m = i.falling.many in let n = c.requires.falling.many in omega (arith, m, n, c.requires.state)) in
    let st = look_step r c.args.to.now.free.now c.args.to.now.zone backs c.args.to.now.back.now.lasts.items c.requires.back (heap_items c.loop-count.heap) (heap_items c.lower.new.heap) c.loop-count.tail c.lower.new.tail (length r.zones.items) c.args.reached.state c.args.reached.left count (count - 1) b
    place stands (i.last (count - 1) b place stands) seen (i.left c.loop-count-test.true) c.in_ok-lower.ensures i.falling in
    let before = st.3.within in
    let less = i.less in record {
      falling = st.0;
      less = omega (arith, less, st.2);
      left = λ some. st.1;
      within = omega (arith, before, inside);
      last = st.3.last;
    }

pub returns : goal.returns
returns c = record {
  falling = IsFalling_whole c.args.to.now.router.now c.args.to.now.free.now c.args.to.now.zone c.args.to.now.back.now.ways.items (heap_items c.loop-count.heap) c.loop-count.tail (length c.args.to.now.router.now.zones.items) c.args.reached.state c.loop-count.count (omega (arith, c.loop-count-test.false)) c.loop-count.invariant.falling;
  less = c.loop-count.invariant.less;
}
