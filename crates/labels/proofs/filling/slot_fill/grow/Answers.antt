use Rattle.std.proofs.Common.{◌≡◌, ◌∙◌, ◌++◌, ◌∷◌, [], ap, arith, get_or, length}
use Rattle.std.proofs.lemmas.List.{length-append}
use Rattle.labels.specs.Filling.Labels.{in_slot}
use Rattle.labels.proofs.OfFilling.SlotFacts.{in_slot_grown}
use Rattle.labels.proofs.filling.slot_fill.grow.Goals as goal

pub each-preserved : goal.each-preserved
each-preserved g c =
    let slot = g.S.Slots.slot in
    let was = c.each.labels.items in
    let now = c.push.new.self.items in
    let x = c.no_walk.result in
    let pushed : now ≡ was ++ x ∷ [] = c.in_ok-push.ensures.items in
    let many = ap (λ xs. length xs) pushed ∙ length-append was (x ∷ []) in (
      omega (arith, many, c.each.invariant.0),
      λ j k h. ap (λ xs. get_or (in_slot slot xs j) k 0) pushed ∙ in_slot_grown slot was (x ∷ []) j k (omega (arith, h, c.each.invariant.0)) ∙ c.each.invariant.1 j k h,
    )
