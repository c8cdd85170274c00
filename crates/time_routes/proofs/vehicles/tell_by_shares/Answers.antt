use Rattle.trip_costs.specs.WalkCosts.{timing}
use Rattle.std.proofs.Common.{length, subst}
use Rattle.time_routes.specs.Tell.{LeadsToFirst, Tells}
use Rattle.time_routes.proofs.TellFacts.{told_of_all}
use Rattle.time_routes.proofs.vehicles.tell_by_shares.Goals as goal

pub returns : goal.returns
returns g c =
    let costs = timing c.args.costs in
    let net = c.args.net.now in
    let trips = c.args.trips.now in
    let asks = c.args.asks.now in
    let found = c.in_ok-zones.zones.items in
    let tells = subst (λ named. Tells costs net trips asks (LeadsToFirst net trips asks named (length named)) c.in_ok-told.told c.tell_shares.new.told) c.deref.ensures.value c.in_ok-tell_shares.ensures in
    told_of_all costs net trips asks c.in_ok-lists.lists found c.in_ok-told.told c.tell_shares.new.told c.in_ok-lists.ensures.grouped c.in_ok-lists.ensures.numbers c.in_ok-zones.ensures.each c.in_ok-told.ensures.leasts c.in_ok-told.ensures.walks tells
