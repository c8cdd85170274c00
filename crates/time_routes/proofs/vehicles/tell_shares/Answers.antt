use Rattle.trip_costs.specs.WalkCosts.{timing}
use Rattle.std.proofs.Common.{◌≡◌, ◌+◌, ◌*◌, ◌≤◌, ◌∙◌, arith, length, subst, sym}
use Rattle.std.specs.Fork.{slice_chunk}
use Rattle.time_routes.specs.Searches.{GoesToAny}
use Rattle.time_routes.specs.Tell.{LeadsToFirst}
use Rattle.labels.specs.declared.reading.group_labels.TheConstants.{MOST_GROUP}
use Rattle.time_routes.proofs.AnswerFacts.{chunk_more, in_all, told_by}
use Rattle.time_routes.proofs.TellFacts.{tells_fewer, tells_then}
use Rattle.time_routes.proofs.vehicles.tell_shares.Goals as goal

pub answers_of_group-requires-clause-inside : goal.answers_of_group-requires-clause-inside
answers_of_group-requires-clause-inside g c = c.count-count.ensures.inside c.loop-group.group (omega (arith, c.loop-group-test.true, c.loop-group.auto.group-end))

pub loop-group-preserved : goal.loop-group-preserved
loop-group-preserved g c =
    let s = c.args.groups.now.search.now in
    let costs = timing s.costs in
    let net = s.net.now in
    let trips = s.trips.now in
    let asks = s.asks.now in
    let named = c.args.groups.now.zones.now in
    let n = c.loop-group.group in
    let chunk = slice_chunk named MOST_GROUP n in
    let put = told_by costs net trips asks (GoesToAny s chunk) c.in_ok-answers.answers.items c.loop-group.told c.put_answers.new.told c.in_ok-answers.ensures.answers c.put_answers.ensures.put in
    let both = tells_then costs net trips asks (LeadsToFirst net trips asks named (n * MOST_GROUP)) (GoesToAny s chunk) (LeadsToFirst net trips asks named ((n + 1) * MOST_GROUP)) c.args.told.now c.loop-group.told c.put_answers.new.told
    c.loop-group.invariant.3 put.leasts put.walks (chunk_more net trips asks named MOST_GROUP n) in
    (c.answers_of_group.ensures.many ∙ c.loop-group.invariant.0, c.in_ok-answers.ensures.found, c.put_answers.ensures.many, both)

pub returns : goal.returns
returns g c =
    let s = c.args.groups.now.search.now in
    let named = c.args.groups.now.zones.now in
    let n = c.loop-group.group in
    let end : n ≡ c.count-count.result = omega (arith, c.loop-group-test.false, c.loop-group.auto.group-end) in
    let all : length named ≤ n * MOST_GROUP = subst (λ k. length named ≤ k * MOST_GROUP) (sym end) c.count-count.ensures.all in
    tells_fewer (timing s.costs) s.net.now s.trips.now s.asks.now (LeadsToFirst s.net.now s.trips.now s.asks.now named (n * MOST_GROUP)) (GoesToAny s named) c.args.told.now c.loop-group.told c.loop-group.invariant.3 (λ v h. in_all s.net.now s.trips.now s.asks.now named (n * MOST_GROUP) v all h)
