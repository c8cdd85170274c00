use Rattle.trip_costs.specs.WalkCosts.{timing}
use Rattle.route_flows.proofs.Averaged.{next_are, next_walk}
use Rattle.route_flows.proofs.flows.gap_and_next_routes.Goals as goal

pub returns-clause-next : goal.returns-clause-next
returns-clause-next g c =
    next_are (timing c.args.timed.now.costs) c.args.timed.now.net.now c.args.timed.now.trips.now c.args.k c.args.routes c.as_slice.result.now c.into_vec.result.items c.in_ok-told.told.walks.items c.renewed.result c.in_ok-asks.asks.items c.deref.result.now
    c.requires.routes.each c.as_slice.ensures c.into_vec.ensures c.deref.ensures.value c.in_ok-asks.ensures c.in_ok-told.ensures.walks c.renewed.ensures

pub returns-clause-walks : goal.returns-clause-walks
returns-clause-walks g c =
    next_walk (timing c.args.timed.now.costs) c.args.timed.now.net.now c.args.timed.now.trips.now c.args.k c.args.routes c.renewed.result c.requires.routes.walks (returns-clause-next g c)
