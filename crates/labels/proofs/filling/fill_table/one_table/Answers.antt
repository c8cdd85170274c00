use Rattle.std.proofs.Common.{◌≡◌, ◌∙◌, ◌+◌, ◌-◌, ◌<◌, ap, arith, drop, subst, sym, take}
use Rattle.std.specs.Prelude.{slice_index}
use Rattle.trip_costs.specs.WalkCosts.{steps_in, table_in}
use Rattle.labels.specs.Filling.Labels.{far, in_slot, rest_in}
use Rattle.labels.specs.Filling.SlotForms.{one_slot}
use Rattle.labels.specs.Filling.Tables.{left_alone}
use Rattle.labels.specs.Filling.Tails.{widened}
use Rattle.labels.specs.Reading.Serves.{AreLeft}
use Rattle.labels.specs.ToZone.{zone_numbers}
use Rattle.labels.proofs.OfFilling.TailFacts.{AreTails_range, range_many, range_number}
use Rattle.labels.proofs.filling.fill_table.one_table.Goals as goal

pub slot_rows-requires-clause-tails : goal.slot_rows-requires-clause-tails
slot_rows-requires-clause-tails c =
    let p = c.args.place in
    AreTails_range (λ tail. tail.items) (table_in c.args.timed.now.costs).free c.args.timed.now.router.now c.args.most c.args.tails.now c.args.zones.now p (p + 1 - p) (omega (arith, c.requires.place)) c.requires.tails

pub returns-clause-left : goal.returns-clause-left
returns-clause-left c =
    let at = steps_in c.args.timed.now.costs in
    let r = c.args.timed.now.router.now in
    let p = c.args.place in
    let n = p + 1 - p in
    let zones = c.args.zones.now in
    let table = c.in_ok-table.table in
    let some : 0 < n = omega arith in
    let many = range_many zones p n (omega (arith, c.requires.place)) in
    let here : p + 0 ≡ p = omega arith in
    let number = range_number zones p n 0 some ∙ ap (λ k. slice_index (zone_numbers zones) k) here in
    let left = c.in_ok-table.ensures.left 0 (omega (arith, many, some)) in
    subst (λ z. AreLeft at (left_alone table) r z) number
    (subst (λ k. AreLeft at (λ s e. widened far (rest_in k table.horizon (in_slot one_slot table.labels.items 0) s e)) r (slice_index (zone_numbers (take n (drop p zones))) 0)) (sym c.in_ok-table.ensures.states) left)
