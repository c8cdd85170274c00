use Rattle.trip_costs.specs.WalkCosts.{timing}
use Rattle.std.proofs.Common.{◌≡◌, sym, ◌∙◌, subst, ap, get_or}
use Rattle.std.specs.Prelude.{slice_index, All}
use Rattle.std.proofs.lemmas.List.{get_or-map}
use Rattle.net_core.specs.declared.rows.ZoneNo.{ZoneNo}
use Rattle.time_routes.specs.Searches.{GoesTo}
use Rattle.time_routes.specs.Tell.{LeadsToFirst, Stands}
use Rattle.time_routes.proofs.AnswerFacts.{answers_fewer, answers_then, in_all}
use Rattle.time_routes.proofs.TellFacts.{first_more, vehicles_lead}
use Rattle.time_routes.proofs.search.Search.answer_group.Goals as goal

pub answer_vehicles-requires-clause-goes : goal.answer_vehicles-requires-clause-goes
answer_vehicles-requires-clause-goes c =
    let s = c.args.self.now in
    let place = c.loop-place.place in
    let d : ZoneNo = record { 0 = 0 } in
    let zone = (get_or c.args.zones.now place d).0 in
    let small = c.requires.zones place d c.loop-place-test.true in
    let all = vehicles_lead s.net.now s.trips.now s.asks.now s.lists s.is.grouped s.is.numbers zone small in
    let same : slice_index c.args.labels.now.zones place ≡ zone =
    ap (λ zs. slice_index zs place) c.requires.of ∙ get_or-map (λ z. z.0) c.args.zones.now place d 0 c.loop-place-test.true in
    subst (λ z. All (GoesTo s z) c.get-vehicles.result.now) (sym same) (subst (λ l. All (GoesTo s zone) l) c.get-vehicles.ensures all)

pub answer_vehicles-requires-clause-right : goal.answer_vehicles-requires-clause-right
answer_vehicles-requires-clause-right c = c.loop-place.invariant.right c.requires.right

pub loop-place-preserved : goal.loop-place-preserved
loop-place-preserved c =
    let s = c.args.self.now in
    let net = s.net.now in
    let trips = s.trips.now in
    let asks = s.asks.now in
    let place = c.loop-place.place in
    answers_then (timing s.costs) net trips asks (LeadsToFirst net trips asks c.args.zones.now place) (Stands c.get-vehicles.result.now) _ c.args.gathered.now.answers.items c.loop-place.gathered.answers.items c.answer_vehicles.new.gathered.answers.items
    c.loop-place.invariant c.in_ok-answer_vehicles.ensures
    (first_more net trips asks s.lists s.is.grouped s.is.numbers c.args.zones.now place (record { 0 = 0 }) c.get-vehicles.result.now c.requires.zones c.get-vehicles.ensures)

pub returns : goal.returns
returns c =
    let s = c.args.self.now in
    answers_fewer (timing s.costs) s.net.now s.trips.now s.asks.now (LeadsToFirst s.net.now s.trips.now s.asks.now c.args.zones.now c.loop-place.place) _ c.args.gathered.now.answers.items c.loop-place.gathered.answers.items
    c.loop-place.invariant (λ v h. in_all s.net.now s.trips.now s.asks.now c.args.zones.now c.loop-place.place v c.loop-place-test.false h)
