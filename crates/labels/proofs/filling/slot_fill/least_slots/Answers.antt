use Rattle.std.proofs.Common.{◌∙◌, ◌+◌, ◌<◌, ◌≤◌, ap, arith, get_or, length, sym}
use Rattle.trip_costs.specs.WalkCosts.{steps_in, table_in}
use Rattle.labels.specs.declared.states.onward.Onward.{Onward}
use Rattle.labels.specs.declared.states.spans.Span.{Span}
use Rattle.labels.specs.Filling.Labels.{in_slot, rest_in}
use Rattle.labels.proofs.OfFilling.LeastOver.{least_done, least_over_le}
use Rattle.labels.proofs.OfFilling.PlaceFacts.{least_step, over_place}
use Rattle.labels.proofs.OfFilling.SlotFacts.{in_slot_at}
use Rattle.labels.proofs.filling.slot_fill.least_slots.Goals as goal

pub loop-span-init : goal.loop-span-init
loop-span-init g c = λ j small.
    let row = c.args.row.now in
    let n = c.no_walk-least.ensures j small in
    let l = least_over_le (steps_in row.costs) g.S.Slots.FAR (rest_in row.states (table_in row.costs).horizon (in_slot g.S.Slots.slot c.args.labels.now j)) row.step c.args.ways.now in
    omega (arith, n, l)

pub loop-span-preserved : goal.loop-span-preserved
loop-span-preserved g c = λ j small.
    let row = c.args.row.now in
    let at = steps_in row.costs in
    let h = (table_in row.costs).horizon in
    let beyond = g.S.Slots.FAR in
    let slot = g.S.Slots.slot in
    let labels = c.args.labels.now in
    let ws = c.args.ways.now in
    let i = c.loop-span.span-index in
    let s0 : Span = record { time = 0; to = 0 } in
    let w0 : Onward = record { wait = 0; link = 0; to = 0 } in
    let span : Span = get_or c.args.spans.now i s0 in
    let w : i < length ws = omega (arith, c.loop-span-test.true, c.requires.spans.as_many) in
    let is = c.requires.spans.each i w0 s0 w in
    let p = c.place_after-place.result in
    let inside : p < length labels = omega (arith, c.place_after-place.ensures.low, c.requires.rows) in
    let stands = in_slot_at slot labels j p c.index-labels-place.result inside c.index-labels-place.is in
    let over = over_place at beyond row.states h (in_slot slot labels j) row.step row.back p span.time (get_or ws i w0) c.args.row.now.counted (is.0) (omega (arith, c.place_after-place.ensures.is, is.1)) in
    least_step at beyond (rest_in row.states h (in_slot slot labels j)) row.step ws i w0 _ _ _ _ w (ap (λ x. x + span.time) (sym stands) ∙ over) (c.or_after-least.ensures j small) (c.loop-span.invariant j small)

pub returns : goal.returns
returns g c = λ j small.
    let row = c.args.row.now in
    let past : length c.args.ways.now ≤ c.loop-span.span-index = omega (arith, c.loop-span-test.false, c.requires.spans.as_many) in
    least_done (steps_in row.costs) g.S.Slots.FAR (rest_in row.states (table_in row.costs).horizon (in_slot g.S.Slots.slot c.args.labels.now j)) row.step _ _ c.args.ways.now _ (c.loop-span.invariant j small) past (g.met.S.Slots.low c.loop-span.least j)
