use Rattle.std.proofs.Common.{◌∙◌, ◌+◌, ◌*◌, ◌<◌, ap, arith, cond}
use Rattle.std.specs.Prelude.{nat_eq, slice_index, slice_set}
use Rattle.labels.specs.Filling.Labels.{in_slot}
use Rattle.labels.specs.ToZone.{zone_numbers}
use Rattle.labels.proofs.OfFilling.SlotFacts.{in_slot_set}
use Rattle.labels.proofs.filling.slot_fill.fill_state.Goals as goal

pub returns-clause-written : goal.returns-clause-written
returns-clause-written g c = λ j small.
    let row = c.args.row.now in
    let labels = c.args.labels.now in
    let slots : j < g.S.Slots.SLOTS = omega (arith, small, c.requires.few) in
    in_slot_set g.S.Slots.slot labels j (row.back * row.states + c.args.state) c.unless_own.result
    ∙ ap (λ x. slice_set (in_slot g.S.Slots.slot labels j) (row.back * row.states + c.args.state) x)
    (c.unless_own.ensures j small ∙ ap (λ x. cond (nat_eq c.args.zone (slice_index (zone_numbers row.zones.now) j)) 0 x) (c.least_slots-least.ensures j slots))
