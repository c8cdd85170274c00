use Rattle.trip_costs.specs.WalkCosts.{tables, timing}
use Rattle.std.proofs.Common.{◌≡◌, ◌+◌, ◌-◌, ◌<◌, [], arith, drop, length, subst, sym}
use Rattle.std.specs.List.{slice_range}
use Rattle.std.proofs.lemmas.List.{length-drop, length-take}
use Rattle.std.proofs.lemmas.List.Elements.{All-nil}
use Rattle.net_core.specs.Network.{zones}
use Rattle.time_routes.specs.Searches.{IsRightAnswer}
use Rattle.time_routes.specs.Tell.{LeadsToFirst}
use Rattle.labels.specs.ToZone.{zone_numbers}
use Rattle.labels.proofs.Basics.{All_range}
use Rattle.time_routes.proofs.AnswerFacts.{answers_then, first_few, first_from}
use Rattle.time_routes.proofs.TellFacts.{group_more}
use Rattle.time_routes.proofs.search.Search.answers_to.Goals as goal

pub to_first-requires-clause-some : goal.to_first-requires-clause-some
to_first-requires-clause-some c =
    let t = length-take (length c.args.zones.now - c.loop-first.first) (drop c.loop-first.first c.args.zones.now) in
    let d = length-drop c.loop-first.first c.args.zones.now in
    omega (arith, t, d, c.loop-first-test.true)

pub to_first-requires-clause-zones : goal.to_first-requires-clause-zones
to_first-requires-clause-zones c =
    All_range (λ z. z.0 < length (zones c.args.self.now.net.now.nodes)) c.args.zones.now c.loop-first.first (length c.args.zones.now) (c.loop-first.invariant.1) (omega arith) c.requires

pub overflow_add-next : goal.overflow_add-next
overflow_add-next c =
    let few = first_few c.args.self.now.net.now (tables c.args.self.now.costs) c.args.zones.now c.loop-first.first c.in_ok-labels.labels (c.loop-first.invariant.1) c.in_ok-labels.ensures.first in
    omega (arith, few, c.count.ensures)

pub answer_group-requires-clause-of : goal.answer_group-requires-clause-of
answer_group-requires-clause-of c =
    subst (λ n. c.in_ok-labels.labels.zones ≡ zone_numbers (slice_range c.args.zones.now c.loop-first.first (c.loop-first.first + n))) (sym c.count.ensures)
    (first_from c.args.self.now.net.now (tables c.args.self.now.costs) c.args.zones.now c.loop-first.first c.in_ok-labels.labels (c.loop-first.invariant.1) c.in_ok-labels.ensures.first)

pub answer_group-requires-clause-right : goal.answer_group-requires-clause-right
answer_group-requires-clause-right c = c.loop-first.invariant.0.right (All-nil (IsRightAnswer c.args.self.now))

pub loop-first-preserved : goal.loop-first-preserved
loop-first-preserved c =
    let s = c.args.self.now in
    let net = s.net.now in
    let trips = s.trips.now in
    let asks = s.asks.now in
    let named = c.args.zones.now in
    let first = c.loop-first.first in
    let next = first + c.count.result in
    let few = first_few net (tables s.costs) named first c.in_ok-labels.labels (c.loop-first.invariant.1) c.in_ok-labels.ensures.first in (
      answers_then (timing s.costs) net trips asks (LeadsToFirst net trips asks named first) _ _ [] c.loop-first.gathered.answers.items c.answer_group.new.gathered.answers.items
          (c.loop-first.invariant.0) c.in_ok-answer_group.ensures (group_more net trips asks named first next),
      omega (arith, few, c.count.ensures),
    )
