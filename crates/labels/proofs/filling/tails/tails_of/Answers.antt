use Rattle.std.proofs.Common.{◌≡◌, ◌∙◌, ◌<◌, ◌≤◌, ℕ, ap, arith, get_or, length, map, subst, sym}
use Rattle.std.specs.Prelude.{All}
use Rattle.trip_costs.specs.WalkCosts.{table_in}
use Rattle.net_core.specs.declared.rows.TheConstants.{MOST_LINKS}
use Rattle.std.proofs.lemmas.Grind.{same_number_lists}
use Rattle.std.proofs.lemmas.List.{map_push}
use Rattle.net_core.specs.declared.rows.ZoneNo.{ZoneNo}
use Rattle.labels.specs.Filling.Labels.{far}
use Rattle.labels.specs.Filling.Tails.{AreTails, most_tail}
use Rattle.labels.specs.ToZone.{zone_numbers}
use Rattle.labels.proofs.OfFilling.FreeFlowFacts.{short_near}
use Rattle.labels.proofs.OfFilling.TailFacts.{AreTailsTo_more, numbers_many}
use Rattle.labels.proofs.filling.tails.tails_of.Goals as goal

pub loop-zone-init : goal.loop-zone-init
loop-zone-init c =
    let none = ap (λ xs. length (map (λ tail. tail.items) xs)) c.new-tails.ensures.items in (
      record { as_many = none; each = λ j h. absurd (omega (arith, h, none)) },
      omega arith,
    )

pub loop-zone-preserved : goal.loop-zone-preserved
loop-zone-preserved c =
    let r = c.args.timed.now.router.now in
    let free = c.as_slice-steps.result.now in
    let n = c.loop-zone.zone-index in
    let zones = c.args.zones.now in
    let d : ZoneNo = record { 0 = 0 } in
    let tail = c.in_ok-tail.tail.items in
    let most = c.most_in-most.ensures in
    let same = c.as_slice.ensures.value in
    let grown = ap (λ xs. map (λ tail. tail.items) xs) c.in_ok-push.ensures.items ∙ map_push (λ tail. tail.items) c.loop-zone.tails.items c.in_ok-tail.tail in (
      AreTailsTo_more free r c.loop-zone.most c.most_in-most.result (map (λ tail. tail.items) c.loop-zone.tails.items) _ zones n tail d c.loop-zone-test.true most.old grown
          c.in_ok-tail.ensures.many c.in_ok-tail.ensures.settled
          (subst (λ xs. (s : ℕ) → s < length xs → get_or xs s 0 < far → get_or xs s 0 ≤ c.most_in-most.result) same most.near) (c.loop-zone.invariant.0),
      most.low (c.loop-zone.invariant.1),
    )

pub most_in-most-requires : goal.most_in-most-requires
most_in-most-requires c =
    let tail = c.in_ok-tail.tail.items in
    let few : length tail ≤ MOST_LINKS = omega (arith, c.in_ok-tail.ensures.many, c.args.timed.now.few_states) in
    subst (λ xs. All (λ x. x < far → x ≤ most_tail) xs) (sym c.as_slice.ensures.value)
    (short_near tail few c.in_ok-tail.ensures.short)

pub returns-clause-tails : goal.returns-clause-tails
returns-clause-tails c =
    let r = c.args.timed.now.router.now in
    let zones = c.args.zones.now in
    let frees = c.in_ok-free.ensures in
    let free : c.as_slice-steps.result.now ≡ (table_in c.args.timed.now.costs).free = c.as_slice-steps.ensures.value ∙ same_number_lists _ _ (frees.many ∙ c.args.timed.now.counted) (λ l h. frees.each l (omega (arith, h, frees.many))) in
    let all = c.loop-zone.invariant.0 in
    let many : length zones ≡ c.loop-zone.zone-index = omega (arith, c.loop-zone-test.false) in
    subst (λ f. AreTails f r c.loop-zone.most (map (λ tail. tail.items) c.loop-zone.tails.items) (zone_numbers zones)) free
    (record { as_many = all.as_many ∙ sym many ∙ numbers_many zones; each = all.each })
