use Rattle.trip_costs.specs.WalkCosts.{timing}
use Rattle.std.proofs.Common.{◌≡◌, ◌∷◌, ◌++◌, [], ap, get_or, subst, sym, ◌∙◌}
use Rattle.time_routes.specs.Searches.{Answers}
use Rattle.time_routes.specs.Tell.{StandsBefore}
use Rattle.time_routes.proofs.AnswerFacts.{answers_fewer, answers_push, answers_then}
use Rattle.time_routes.proofs.TellFacts.{all_before, before_more}
use Rattle.time_routes.proofs.destination.Destination.answer_vehicles.Goals as goal

pub answer_of-requires-clause-right : goal.answer_of-requires-clause-right
answer_of-requires-clause-right c = c.loop-vehicle.invariant.right c.requires.right

pub loop-vehicle-preserved : goal.loop-vehicle-preserved
loop-vehicle-preserved c =
    let s = c.args.self.now.search.now in
    let costs = timing s.costs in
    let vs = c.args.vehicles.now in
    let i = c.loop-vehicle.vehicle-index in
    answers_then costs s.net.now s.trips.now s.asks.now (StandsBefore vs i) _ _ c.args.gathered.now.answers.items c.loop-vehicle.gathered.answers.items _
    c.loop-vehicle.invariant
    (subst (λ l. Answers s (λ w. w ≡ get_or vs i 0) c.loop-vehicle.gathered.answers.items l) (sym (c.in_ok-push.ensures.items ∙ ap (λ l. l ++ c.in_ok-answer.answer ∷ []) c.answer_of.ensures.kept))
    (answers_push costs s.net.now s.trips.now s.asks.now (get_or vs i 0) c.loop-vehicle.gathered.answers.items c.in_ok-answer.answer c.in_ok-answer.ensures.of c.in_ok-answer.ensures.right))
    (before_more vs i 0)

pub returns : goal.returns
returns c =
    let s = c.args.self.now.search.now in
    answers_fewer (timing s.costs) s.net.now s.trips.now s.asks.now (StandsBefore c.args.vehicles.now c.loop-vehicle.vehicle-index) _ c.args.gathered.now.answers.items c.loop-vehicle.gathered.answers.items c.loop-vehicle.invariant
    (λ v h. all_before c.args.vehicles.now c.loop-vehicle.vehicle-index v c.loop-vehicle-test.false h)
