use Rattle.std.proofs.Common.{◌≡◌, ◌⊎◌, inl, inr, ◌∙◌, ℕ, ◌<◌, ◌≤◌, ◌+◌, [], ap, arith, get_or, length, map, subst, sym}
use Rattle.std.proofs.lemmas.Bool.{cases_lt}
use Rattle.std.proofs.lemmas.List.{get_or-map}
use Rattle.labels.specs.Filling.Labels.{in_slot}
use Rattle.labels.specs.Filling.Tails.{IsPut}
use Rattle.labels.proofs.filling.slot_rows.put_tails.Goals as goal

pub loop-slot-preserved : goal.loop-slot-preserved
loop-slot-preserved g c =
    let slot = g.S.Slots.slot in
    let beyond = g.S.Slots.FAR in
    let inv = c.loop-slot.invariant in
    let n = c.loop-slot.slot in
    let new = c.put_tail.new.labels in
    let tails = map (λ tail. tail.items) c.args.tails.now in
    let small : n < length c.args.tails.now = c.loop-slot-test.true in
    let put = c.put_tail.ensures in
    let stands : c.as_slice.result.now ≡ get_or tails n [] = c.as_slice.ensures.value ∙ ap (λ tail. tail.items) c.index-tails-slot.is ∙ sym (get_or-map (λ tail. tail.items) c.args.tails.now n c.index-tails-slot.result [] small) in
    let here : IsPut beyond (in_slot slot new n) (get_or tails n []) = subst (λ tail. IsPut beyond (in_slot slot new n) tail) stands put.put in
    let by : (j : ℕ) → j < n + 1 → (j < n) ⊎ (n ≤ j) → IsPut beyond (in_slot slot new j) (get_or tails j []) = λ j h. elim [
      | inl less ↦ λ s k. put.other s j (omega (arith, less, small, c.requires.few)) (λ e. absurd (omega (arith, e, less))) ∙ inv.1 j less s k
      | inr more ↦ subst (λ k. IsPut beyond (in_slot slot new k) (get_or tails k [])) (omega (arith, h, more)) here
    ] in (
      put.many ∙ inv.0,
      λ j h. by j h (cases_lt j n),
    )
