use Rattle.trip_costs.specs.WalkCosts.{timing}
use Rattle.std.proofs.Common.{◌∙◌, ◌<◌, ap, length, subst, sym}
use Rattle.std.proofs.lemmas.Option.{slice_get-get_or}
use Rattle.time_routes.proofs.AnswerFacts.{put_long, put_told}
use Rattle.time_routes.proofs.put_answers.put.Goals as goal

pub returns-clause-many : goal.returns-clause-many
returns-clause-many c = record {
  leasts = ap length c.put_if.ensures ∙ put_long _ c.args.told.now.leasts.items c.args.answer.vehicle c.args.answer.least ∙ c.requires.told.leasts;
  walks = ap length c.put_if-2.ensures ∙ put_long _ c.args.told.now.walks.items c.args.answer.vehicle c.args.answer.walk ∙ c.requires.told.walks;
}

pub returns-clause-put : goal.returns-clause-put
returns-clause-put c =
    let s = c.args.search.now in
    let v = c.args.answer.vehicle in
    let inside : v < length s.asks.now = subst (λ n. v < n) (sym s.is.each) c.requires.right.within in
    put_told (timing s.costs) s.net.now s.trips.now s.asks.now c.args.answer _ c.args.told.now _ c.requires.right (slice_get-get_or s.asks.now v _ inside) c.put_if.ensures c.put_if-2.ensures
