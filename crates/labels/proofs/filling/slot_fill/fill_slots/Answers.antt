use Rattle.std.proofs.Common.{◌≡◌, ◌∙◌, ℕ, ◌+◌, ◌-◌, ◌*◌, ◌<◌, ◌≤◌, ap, arith, length, refl, subst, sym}
use Rattle.std.proofs.lemmas.Grind.{common_steps}
use Rattle.std.specs.Prelude.{slice_index}
use Rattle.trip_costs.specs.WalkCosts.{steps_in, table_in}
use Rattle.labels.specs.Filling.Labels.{in_slot}
use Rattle.labels.specs.Filling.Rows.{IsRowTo}
use Rattle.labels.specs.Filling.Slots.{AreSlotRows}
use Rattle.labels.specs.ToZone.{zone_numbers}
use Rattle.labels.proofs.OfFilling.RowFacts.{short_some}
use Rattle.labels.proofs.OfFilling.SlotFacts.{in_slot_low, row_fits}
use Rattle.labels.proofs.OfFilling.TableFacts.{AreRows_more, AreRows_none}
use Rattle.labels.proofs.OfFilling.TailFacts.{whole_lent}
use Rattle.labels.proofs.filling.slot_fill.fill_slots.Goals as goal

pub loop-step-init : goal.loop-step-init
loop-step-init g c =
    let t = table_in c.args.timed.now.costs in
    let at = steps_in c.args.timed.now.costs in
    let is = c.horizon-horizon.ensures.is in
    let states = length c.args.timed.now.router.now.zones.items in
    let none : t.horizon - c.horizon-horizon.result + 1 ≡ 1 = omega (arith, is) in (
      omega (arith, is),
      subst (λ n. n * states ≤ length c.args.labels.now.items) (sym none) (let row = c.requires.row in omega (arith, row)),
      λ j small. AreRows_none at g.S.Slots.FAR states t.horizon (in_slot g.S.Slots.slot c.args.labels.now.items j) c.args.timed.now.router.now (slice_index (zone_numbers c.args.zones.now) j) c.horizon-horizon.result (omega (arith, is)) (in_slot_low g.S.Slots.slot g.S.Slots.FAR g.met.S.Slots.low c.args.labels.now.items j),
      c.requires.spans,
      λ before. absurd (omega (arith, is, before)),
      λ before. absurd (omega (arith, is, before)),
    )

pub loop-step-preserved : goal.loop-step-preserved
loop-step-preserved g c =
    let t = table_in c.args.timed.now.costs in
    let at = steps_in c.args.timed.now.costs in
    let h = t.horizon in
    let r = c.args.timed.now.router.now in
    let states = length r.zones.items in
    let slot = g.S.Slots.slot in
    let beyond = g.S.Slots.FAR in
    let step = c.loop-step.step in
    let before = c.horizon-horizon.result - (step - 1) in
    let test = c.loop-step-test.true in
    let inv = c.loop-step.invariant in
    let is = c.horizon-horizon.ensures.is in
    let zones = zone_numbers c.args.zones.now in
    let first = c.args.labels.now.items in
    let now = c.loop-step.labels.items in
    let grown = c.grow.new.labels in
    let new = c.fill_row.new.labels in
    let next : step ≡ step - 1 + 1 = omega (arith, test) in
    let rows = subst (λ n. AreSlotRows slot at beyond r h zones first now n) next (inv.2) in
    let value = c.as_mut_slice.ensures.value in
    let many : length new ≡ length grown.items = c.fill_row.ensures.many ∙ ap (λ xs. length xs) value in
    let len : grown.len ≡ length grown.items = grind (arith, common_steps) in
    let whole = whole_lent new grown.items grown.len many len in
    let counted : before * c.state_count-states.result + c.state_count-states.result ≤ length grown.items = c.in_ok-grow.ensures.many in
    let roomy : before * states + states ≤ length grown.items = subst (λ n. before * n + n ≤ length grown.items) c.state_count-states.ensures counted in
    let back : before ≡ h - (step - 1) = omega (arith, is) in
    let here : (h - (step - 1) + 1) * states ≤ length new = subst (λ n. (n + 1) * states ≤ length new) back (omega (arith, roomy, many)) in
    let till : before ≡ h - step + 1 = omega (arith, is, test, inv.0) in
    let kept : (k : ℕ) → k < before * states → k < length now = λ k q. (let q' = subst (λ n. k < n * states) till q in let l = inv.1 in omega (arith, q', l)) in (
      omega (arith, inv.0),
      subst (λ xs. (h - (step - 1) + 1) * states ≤ length xs) (sym whole) here,
      λ j small. subst (λ xs. AreSlotRows slot at beyond r h zones first xs (step - 1)) (sym whole) (λ k few. AreRows_more at beyond states h (in_slot slot first k) (in_slot slot now k) (in_slot slot grown.items k) (in_slot slot new k) r (slice_index zones k) (step - 1) before
          (omega (arith, test, inv.0, is)) (omega (arith, test, inv.0, is)) refl r.inside.order r.inside.to (λ e. short_some at beyond e r.ways.items (c.requires.short e)) (rows k few)
          (λ p q. c.in_ok-grow.ensures.stay k p (kept p q))
          (subst (λ xs. IsRowTo at beyond states h (in_slot slot xs k) (in_slot slot new k) before (step - 1) r (slice_index zones k) states) value (c.fill_row.ensures.filled k few))) j small,
      c.in_ok-keep.ensures.spans.as_many,
      λ early. c.in_ok-keep.ensures.spans,
      λ early. c.in_ok-keep.ensures.moving,
    )

pub fill_row-requires-clause-fits : goal.fill_row-requires-clause-fits
fill_row-requires-clause-fits g c =
    let is = c.horizon-horizon.ensures.is in
    let inside : c.horizon-horizon.result - (c.loop-step.step - 1) ≤ (table_in c.args.timed.now.costs).horizon = omega (arith, is) in
    row_fits (table_in c.args.timed.now.costs).horizon (length c.args.timed.now.router.now.zones.items) (c.horizon-horizon.result - (c.loop-step.step - 1)) (omega (arith, is)) c.args.timed.now.few_states inside

pub returns-clause-filled : goal.returns-clause-filled
returns-clause-filled g c =
    let t = table_in c.args.timed.now.costs in
    let at = steps_in c.args.timed.now.costs in
    let none : c.loop-step.step ≡ 0 = omega (arith, c.loop-step-test.false) in
    subst (λ n. AreSlotRows g.S.Slots.slot at g.S.Slots.FAR c.args.timed.now.router.now t.horizon (zone_numbers c.args.zones.now) c.args.labels.now.items c.loop-step.labels.items n) none (c.loop-step.invariant.2)
