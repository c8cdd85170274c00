use Rattle.std.proofs.Common.{◌∙◌, ap, length, rules, subst, sym, true}
use Rattle.time_routes.specs.Destinations.{AreTold}
use Rattle.trip_costs.specs.Timings.{Links}
use Rattle.route_flows.specs.Averages.{AreStartedRoutes}
use Rattle.route_flows.specs.Selection.{free_time}
use Rattle.start_table.specs.Starts.{TellsStart}
use Rattle.route_flows.proofs.Averaged.{lent}
use Rattle.route_flows.proofs.FreeTimes.{free-many, from_start, started_table}
use Rattle.route_flows.proofs.Started.{started_walk}
use Rattle.route_flows.proofs.flows.started_routes.Goals as goal

pub tell_by_shares-requires-clause-table : goal.tell_by_shares-requires-clause-table
tell_by_shares-requires-clause-table g c _ _ = ap (λ t. length t.free) c.in_ok-times.ensures.table ∙ free-many c.args.net.now 1 1

pub returns-clause-started : goal.returns-clause-started
returns-clause-started g c =
    let net = c.args.net.now in
    let start = c.args.start.now in
    let trips = c.args.trips.now in
    subst (λ r. AreStartedRoutes net start trips r)
    (sym (c.of.ensures ∙ lent c.in_ok-routes.routes.len c.in_ok-routes.routes.items c.deref_mut-2.result.now c.fill_in.new.walks (search rules) c.deref_mut-2.ensures.value c.fill_in.ensures.as_many))
    (from_start net start trips c.in_ok-times.times c.in_ok-asks.asks.items c.deref-2.result.now c.deref_mut.result.now c.in_ok-walks.field-0.walks.items c.deref_mut-2.result.now c.deref.result.now c.fill_in.new.walks c.in_ok-times.ensures.table
    (subst (λ o. AreTold (TellsStart net start) (λ v. true) trips o) (sym c.deref_mut-2.ensures.value) c.in_ok-routes.ensures)
    (c.deref.ensures.value ∙ sym c.deref_mut-2.ensures.value)
    c.in_ok-asks.ensures c.deref-2.ensures.value c.in_ok-walks.ensures.walks c.deref_mut.ensures.value c.fill_in.ensures)

pub returns-clause-table : goal.returns-clause-table
returns-clause-table g c bucket some =
    started_table c.args.net.now c.args.start.now c.args.trips.now c.of.result bucket c.args.horizon some c.requires.horizon_least
    (returns-clause-started g c)

pub returns-clause-walks : goal.returns-clause-walks
returns-clause-walks g c =
    started_walk (Links (free_time c.args.net.now)) c.args.net.now c.args.start.now c.args.trips.now c.of.result
    (returns-clause-started g c)
