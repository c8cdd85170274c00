use Rattle.std.proofs.Common.{◌∙◌, ◌<◌, [], ap, arith, get_or, length, map, refl, subst, sym}
use Rattle.std.proofs.lemmas.List.{get_or-map, length-map}
use Rattle.labels.specs.Filling.Labels.{in_slot}
use Rattle.trip_costs.specs.WalkCosts.{steps_in, table_in}
use Rattle.labels.specs.Filling.Slots.{AreSlotsLeft}
use Rattle.labels.specs.ToZone.{zone_numbers}
use Rattle.labels.proofs.OfFilling.NarrowFacts.{rows_left, spans_short_at}
use Rattle.labels.proofs.OfFilling.TailFacts.{numbers_many}
use Rattle.labels.proofs.filling.slot_rows.slot_rows.Goals as goal

pub begun_of-requires-clause-few : goal.begun_of-requires-clause-few
begun_of-requires-clause-few g c =
    let n = length-map c.args.tails.now (λ tail. tail.items) in
    let m = numbers_many c.args.zones.now in
    omega (arith, n, m, c.requires.tails.as_many, c.requires.few)

pub begun_of-requires-clause-states : goal.begun_of-requires-clause-states
begun_of-requires-clause-states g c = λ k d h. (
    let n = length-map c.args.tails.now (λ tail. tail.items) in
    ap (λ xs. length xs) (sym (get_or-map (λ tail. tail.items) c.args.tails.now k d [] h)) ∙ (c.requires.tails.each k (omega (arith, h, n))).as_many)

pub filled_over-requires-clause-short : goal.filled_over-requires-clause-short
filled_over-requires-clause-short g c = spans_short_at (table_in c.args.timed.now.costs) (steps_in c.args.timed.now.costs) c.args.timed.now.router.now c.args.most g.S.Slots.FAR c.horizon-horizon.ensures.timed c.args.timed.now.each c.requires.fits

pub returns-clause-left : goal.returns-clause-left
returns-clause-left g c =
    let t = table_in c.args.timed.now.costs in
    let at = steps_in c.args.timed.now.costs in
    let r = c.args.timed.now.router.now in
    let slot = g.S.Slots.slot in
    let beyond = g.S.Slots.FAR in
    let zones = zone_numbers c.args.zones.now in
    let tails = map (λ tail. tail.items) c.args.tails.now in
    let many = length-map c.args.tails.now (λ tail. tail.items) in
    let left : AreSlotsLeft slot at beyond r t.horizon zones c.in_ok-labels.labels.items = λ j h. (
    let small : j < length c.args.tails.now = omega (arith, h, many, c.requires.tails.as_many) in
    rows_left t at r (get_or zones j 0) c.args.most c.requires.fits.longest beyond t.free (in_slot slot c.in_ok-begun.begun.items j) (in_slot slot c.in_ok-labels.labels.items j) (get_or tails j []) g.met.S.Slots.near
    c.horizon-horizon.ensures.timed c.args.timed.now.each (λ l. refl) (c.requires.tails.each j (omega (arith, small, many))) (c.in_ok-begun.ensures.put j small) (c.in_ok-labels.ensures.rows j h) c.requires.fits.within c.requires.fits.fits c.requires.fits.near) in
    subst (λ n. AreSlotsLeft slot at beyond r n zones c.in_ok-labels.labels.items) (sym c.horizon-horizon.ensures.is) left
