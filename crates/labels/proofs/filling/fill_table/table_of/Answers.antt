use Rattle.std.proofs.Common.{◌≡◌, ℕ, ◌≤◌, Global, List, Vec, arith, length, map, subst, sym, take}
use Rattle.std.proofs.lemmas.List.{length-take-le, take-take}
use Rattle.net_core.specs.declared.rows.ZoneNo.{ZoneNo}
use Rattle.std.specs.Prelude.{slice_index}
use Rattle.trip_costs.specs.WalkCosts.{steps_in, table_in}
use Rattle.labels.specs.Filling.Labels.{in_slot, rest_in}
use Rattle.labels.specs.Filling.SlotForms.{four_slot}
use Rattle.labels.specs.Filling.Tails.{AreTails, widened}
use Rattle.labels.specs.Reading.Serves.{AreLeft}
use Rattle.labels.specs.ToZone.{zone_numbers}
use Rattle.labels.specs.declared.states.router.Router.{Router}
use Rattle.labels.specs.declared.filling.no_walk.TheConstants.{NARROW_FAR}
use Rattle.labels.proofs.OfFilling.TailFacts.{AreTails_range, numbers_many}
use Rattle.labels.proofs.filling.fill_table.table_of.Goals as goal

-- the tails of the first of some zones, which were lent
first_tails : (free : List ℕ) (r : Router) (most : ℕ) (lent rows : List (Vec ℕ Global)) (zones : List ZoneNo) (n first : ℕ)
    → n ≤ first → first ≤ length zones → lent ≡ rows → AreTails free r most (map (λ tail. tail.items) rows) (zone_numbers (take first zones))
    → AreTails free r most (map (λ tail. tail.items) (take n lent)) (zone_numbers (take n zones))
first_tails free r most lent rows zones n first few within is are =
    let many = length-take-le first zones within in
    subst (λ xs. AreTails free r most (map (λ tail. tail.items) (take n xs)) (zone_numbers (take n zones))) (sym is)
    (subst (λ zs. AreTails free r most (map (λ tail. tail.items) (take n rows)) (zone_numbers zs)) (take-take n first zones few)
    (AreTails_range (λ tail. tail.items) free r most rows (take first zones) 0 n (omega (arith, few, many)) are))

pub slot_rows-requires-then-reach-clause-tails : goal.slot_rows-requires-then-reach-clause-tails
slot_rows-requires-then-reach-clause-tails c =
    first_tails (table_in c.args.timed.now.costs).free c.args.timed.now.router.now c.in_ok-tails.tails.most c.deref.result.now c.in_ok-tails.tails.zones.items c.args.zones.now c.max-count.result c.min-count.result
    (omega (arith, c.max-count.ensures, c.min.ensures, c.min-count.ensures, c.most_zones.ensures.enough, c.requires.least)) (omega (arith, c.min-count.ensures)) c.deref.ensures.value c.in_ok-tails.ensures.tails

pub wide_table-requires-clause-tails : goal.wide_table-requires-clause-tails
wide_table-requires-clause-tails c =
    first_tails (table_in c.args.timed.now.costs).free c.args.timed.now.router.now c.in_ok-tails.tails.most c.deref.result.now c.in_ok-tails.tails.zones.items c.args.zones.now c.max-count.result c.min-count.result
    (omega (arith, c.max-count.ensures, c.min.ensures, c.min-count.ensures, c.most_zones.ensures.enough, c.requires.least)) (omega (arith, c.min-count.ensures)) c.deref.ensures.value c.in_ok-tails.ensures.tails

pub returns-then-reach-clause-left : goal.returns-then-reach-clause-left
returns-then-reach-clause-left c =
    let at = steps_in c.args.timed.now.costs in
    let r = c.args.timed.now.router.now in
    let n = c.max-count.result in
    let zones = zone_numbers (take n c.args.zones.now) in
    let narrow = c.in_ok-table-2.table in
    let within : n ≤ length c.args.zones.now = omega (arith, c.max-count.ensures, c.min.ensures, c.min-count.ensures, c.most_zones.ensures.enough, c.requires.least) in
    let many = length-take-le n c.args.zones.now within in
    let as_many = numbers_many (take n c.args.zones.now) in record {
      few = within;
      enough = omega (arith, c.max-count.ensures);
      left = record {
        states = c.in_ok-table-2.ensures.states;
        places = omega (arith, many, as_many, c.if-count-le-MOST_NARROW.true);
        each = λ j h. subst (λ k. AreLeft at (λ s e. widened NARROW_FAR (rest_in k narrow.horizon (in_slot four_slot narrow.labels.items j) s e)) r (slice_index zones j)) (sym c.in_ok-table-2.ensures.states) (c.in_ok-table-2.ensures.left j h);
      };
    }
