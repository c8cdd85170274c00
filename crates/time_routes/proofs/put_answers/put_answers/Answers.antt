use Rattle.trip_costs.specs.WalkCosts.{timing}
use Rattle.std.proofs.Common.{◌≡◌, ◌∙◌, ◌∷◌, [], ◌++◌, length, rules, subst, sym}
use Rattle.std.specs.Prelude.{vec_len}
use Rattle.std.proofs.lemmas.Iterator.Adapters.{YieldsList-from_vec}
use Rattle.std.proofs.lemmas.Iterator.Consumers.{YieldsList-end}
use Rattle.std.proofs.lemmas.List.{map-id}
use Rattle.time_routes.specs.Answers.{answered}
use Rattle.time_routes.specs.Searches.{TellsMore}
use Rattle.time_routes.specs.Tell.{Stands}
use Rattle.time_routes.proofs.AnswerFacts.{answered_then}
use Rattle.time_routes.proofs.TellFacts.{tells_then}
use Rattle.time_routes.proofs.put_answers.put_answers.Goals as goal

pub loop-answer-preserved : goal.loop-answer-preserved
loop-answer-preserved c =
    let s = c.args.search.now in
    let before = c.loop-answer.yielded in
    let answer = c.in-Some.answer in (
      tt,
      tt,
      c.put.ensures.many,
      tells_then (timing s.costs) s.net.now s.trips.now s.asks.now (Stands (answered before)) (λ v. v ≡ answer.vehicle) (Stands (answered (before ++ answer ∷ []))) c.args.told.now c.loop-answer.told c.put.new.told
          c.loop-answer.invariant.3 c.put.ensures.put.leasts c.put.ensures.put.walks (answered_then before answer),
    )

pub returns-clause-put : goal.returns-clause-put
returns-clause-put c =
    let gives = c.into_iter-answer-iterator.ensures.into_iter_gives in
    let long : vec_len c.args.answers ≡ length c.args.answers.items = search rules in
    let end = YieldsList-end (YieldsList-from_vec c.args.answers.items gives.0 (gives.1 ∙ long)) c.loop-answer.yielded _ c.loop-answer.yielded_by _ c.next.new.self c.in-None.is c.next.ensures.steps in
    let same : c.loop-answer.yielded ≡ c.args.answers.items = sym (map-id c.loop-answer.yielded) ∙ end.0 in
    subst (λ l. TellsMore c.args.search.now (Stands (answered l)) c.args.told.now c.loop-answer.told) same c.loop-answer.invariant.3
