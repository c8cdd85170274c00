use Rattle.trip_costs.specs.WalkCosts.{timing}
use Rattle.std.proofs.Common.{length, subst}
use Rattle.time_routes.specs.Answers.{AreAnswers}
use Rattle.time_routes.specs.Tell.{LeadsToFirst}
use Rattle.time_routes.proofs.TellFacts.{told_of_all}
use Rattle.time_routes.proofs.AnswerFacts.{told_by}
use Rattle.time_routes.proofs.vehicles.tell.Goals as goal

pub returns : goal.returns
returns c =
    let costs = timing c.args.costs in
    let net = c.args.net.now in
    let trips = c.args.trips.now in
    let asks = c.args.asks.now in
    let found = c.in_ok-zones.zones.items in
    let are = subst (λ named. AreAnswers costs net trips asks (LeadsToFirst net trips asks named (length named)) c.in_ok-answers.answers.items) c.deref.ensures.value c.in_ok-answers.ensures in
    let tells = told_by costs net trips asks (LeadsToFirst net trips asks found (length found)) c.in_ok-answers.answers.items c.in_ok-told.told c.put_answers.new.told are c.put_answers.ensures.put in
    told_of_all costs net trips asks c.in_ok-lists.lists found c.in_ok-told.told c.put_answers.new.told c.in_ok-lists.ensures.grouped c.in_ok-lists.ensures.numbers c.in_ok-zones.ensures.each c.in_ok-told.ensures.leasts c.in_ok-told.ensures.walks tells
