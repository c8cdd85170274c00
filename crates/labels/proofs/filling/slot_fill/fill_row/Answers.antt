use Rattle.std.proofs.Common.{◌≡◌, ◌∙◌, ℕ, ◌+◌, ◌*◌, ◌<◌, arith, get_or, length, refl, subst, sym}
use Rattle.std.specs.Prelude.{nat_eq, slice_index, slice_set}
use Rattle.std.specs.List.{slice_range}
use Rattle.trip_costs.specs.WalkCosts.{steps_in, table_in}
use Rattle.labels.specs.Filling.Labels.{in_slot, value}
use Rattle.labels.specs.Filling.Rests.{span}
use Rattle.labels.specs.States.Routers.{ways_of}
use Rattle.labels.specs.States.Spans.{AreShortSpans, IsSpans}
use Rattle.labels.specs.ToZone.{zone_numbers}
use Rattle.labels.proofs.Basics.{All_range}
use Rattle.labels.proofs.OfFilling.RowFacts.{IsRowTo_next, IsRowTo_none, short_some}
use Rattle.labels.proofs.OfFilling.SlotFacts.{in_slot_low, in_slot_many}
use Rattle.labels.proofs.OfFilling.TailFacts.{numbers_many}
use Rattle.labels.proofs.OfStates.SpanFacts.{IsSpans_range, spans_short}
use Rattle.labels.proofs.filling.slot_fill.fill_row.Goals as goal

pub loop-state-init : goal.loop-state-init
loop-state-init g c = (
  refl,
  λ j small. IsRowTo_none (steps_in c.args.timed.now.costs) g.S.Slots.FAR (length c.args.timed.now.router.now.zones.items) (table_in c.args.timed.now.costs).horizon (in_slot g.S.Slots.slot c.args.labels.now j) c.args.back c.args.step c.args.timed.now.router.now (slice_index (zone_numbers c.args.zones.now) j) (in_slot_low g.S.Slots.slot g.S.Slots.FAR g.met.S.Slots.low c.args.labels.now j),
)

pub loop-state-preserved : goal.loop-state-preserved
loop-state-preserved g c =
    let at = steps_in c.args.timed.now.costs in
    let slot = g.S.Slots.slot in
    let beyond = g.S.Slots.FAR in
    let h = (table_in c.args.timed.now.costs).horizon in
    let r = c.args.timed.now.router.now in
    let states = length r.zones.items in
    let starts = r.starts.items in
    let s = c.loop-state.state in
    let now = c.loop-state.labels in
    let new = c.fill_state.new.labels in
    let zones = zone_numbers c.args.zones.now in
    let small : s < length r.zones.items = omega (arith, c.loop-state-test.true, c.state_count-states.ensures) in
    let o = r.inside.order s small in
    let inside = All_range (λ w. w.to < states) r.ways.items (get_or starts s 0) (get_or starts (s + 1) 0) (o.0) (o.1) r.inside.to in
    let goes = All_range (λ w. 0 < span at c.args.step w) r.ways.items (get_or starts s 0) (get_or starts (s + 1) 0) (o.0) (o.1) (short_some at beyond c.args.step r.ways.items c.requires.short) in
    let written : (j : ℕ) → j < length c.args.zones.now → in_slot slot new j ≡ slice_set (in_slot slot now j) (c.args.back * states + s) (value at beyond states h (in_slot slot now j) (nat_eq c.zone.result (slice_index zones j)) c.ways_on.result.now c.args.step) =
    subst (λ n. (j : ℕ) → j < length c.args.zones.now → in_slot slot new j ≡ slice_set (in_slot slot now j) (c.args.back * n + s) (value at beyond n h (in_slot slot now j) (nat_eq c.zone.result (slice_index zones j)) c.ways_on.result.now c.args.step)) c.state_count-states.ensures c.fill_state.ensures.written in (
      c.fill_state.ensures.many ∙ c.loop-state.invariant.0,
      λ j k. IsRowTo_next at beyond states h (in_slot slot c.args.labels.now j) (in_slot slot now j) (in_slot slot new j) c.args.back c.args.step r (slice_index zones j) s c.zone.result c.ways_on.result.now c.zone.ensures c.ways_on.ensures.are
          (c.requires.back.1) (c.requires.back.0) small (let n = in_slot_many slot c.args.labels.now j in omega (arith, n, c.requires.rows)) inside goes
          (in_slot_low slot beyond g.met.S.Slots.low new j) (written j (let n = numbers_many c.args.zones.now in omega (arith, k, n))) (c.loop-state.invariant.1 j k),
    )

pub fill_state-requires-clause-spans : goal.fill_state-requires-clause-spans
fill_state-requires-clause-spans g c =
    let at = steps_in c.args.timed.now.costs in
    let r = c.args.timed.now.router.now in
    let s = c.loop-state.state in
    let small : s < length r.zones.items = omega (arith, c.loop-state-test.true, c.state_count-states.ensures) in
    let o = r.inside.order s small in
    subst (λ ws. IsSpans at c.args.step ws c.spans_on.result.now) (sym c.ways_on.ensures.are)
    (subst (λ ss. IsSpans at c.args.step (ways_of r.starts.items r.ways.items s) ss) (sym c.spans_on.ensures)
    (IsSpans_range at c.args.step r.ways.items c.args.spans.now (get_or r.starts.items s 0) (get_or r.starts.items (s + 1) 0) (o.0) (o.1) c.requires.spans))

pub fill_state-requires-clause-short : goal.fill_state-requires-clause-short
fill_state-requires-clause-short g c =
    let at = steps_in c.args.timed.now.costs in
    let beyond = g.S.Slots.FAR in
    let step = c.args.step in
    let r = c.args.timed.now.router.now in
    let ways = r.ways.items in
    let s = c.loop-state.state in
    let a = get_or r.starts.items s 0 in
    let b = get_or r.starts.items (s + 1) 0 in
    let small : s < length r.zones.items = omega (arith, c.loop-state-test.true, c.state_count-states.ensures) in
    let o = r.inside.order s small in
    subst (λ n. AreShortSpans beyond n c.spans_on.result.now) (sym c.state_count-states.ensures)
    (subst (λ ss. AreShortSpans beyond (length r.zones.items) ss) (sym c.spans_on.ensures)
    (spans_short at beyond step (length r.zones.items) (slice_range ways a b) (slice_range c.args.spans.now a b)
    (All_range (λ w. (0 < span at step w) × (span at step w < beyond)) ways a b (o.0) (o.1) c.requires.short)
    (All_range (λ w. w.to < length r.zones.items) ways a b (o.0) (o.1) r.inside.to)
    (IsSpans_range at step ways c.args.spans.now a b (o.0) (o.1) c.requires.spans)))
