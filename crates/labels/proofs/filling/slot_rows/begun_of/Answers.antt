use Rattle.std.proofs.Common.{◌≡◌, ◌∙◌, ◌<◌, ℕ, [], ap, arith, get_or, length, map, subst, sym}
use Rattle.std.proofs.lemmas.Grind.{common_steps}
use Rattle.labels.specs.Filling.Labels.{in_slot}
use Rattle.labels.specs.Filling.Tails.{IsPut}
use Rattle.labels.proofs.OfFilling.TailFacts.{whole_lent}
use Rattle.labels.proofs.filling.slot_rows.begun_of.Goals as goal

pub returns-clause-put : goal.returns-clause-put
returns-clause-put g c =
    let labels = c.put_tails.new.labels in
    let old = c.grow.new.labels in
    let len : old.len ≡ length old.items = grind (arith, common_steps) in
    let lent : length c.as_mut_slice.result.now ≡ length old.items = ap (λ xs. length xs) c.as_mut_slice.ensures.value in
    let whole = whole_lent labels old.items old.len (c.put_tails.ensures.many ∙ lent) len in
    subst (λ xs. (j : ℕ) → j < length c.args.tails.now → IsPut g.S.Slots.FAR (in_slot g.S.Slots.slot xs j) (get_or (map (λ tail. tail.items) c.args.tails.now) j [])) (sym whole) c.put_tails.ensures.put
