use Rattle.std.proofs.Common.{◌∙◌, ◌<◌, arith, get_or, length, min}
use Rattle.std.proofs.lemmas.List.{length-set}
use Rattle.labels.proofs.OfFilling.SlotFacts.{other_slot, this_slot}
use Rattle.labels.proofs.filling.slot_rows.put_tail.Goals as goal

pub loop-state-preserved : goal.loop-state-preserved
loop-state-preserved g c =
    let slot = g.S.Slots.slot in
    let slots = g.S.Slots.SLOTS in
    let inv = c.loop-state.invariant in
    let labels = c.loop-state.labels in
    let s = c.loop-state.state in
    let x = c.index-labels-state.result in
    let y = c.with.result in
    let tail = c.args.tail.now in
    let inside : s < length labels = omega (arith, inv.0, c.requires.many, c.loop-state-test.true) in (
      length-set labels s y ∙ inv.0,
      this_slot slot slots labels s c.args.slot c.min-left.result x y inside c.index-labels-state.is c.with.ensures (λ k. min (get_or tail k 0) g.S.Slots.FAR) c.requires.slot (omega (arith, c.min-left.ensures)) (inv.1),
      λ k j small apart. other_slot slot slots labels s c.args.slot c.min-left.result x y inside c.index-labels-state.is c.with.ensures k j small apart ∙ inv.2 k j small apart,
    )
