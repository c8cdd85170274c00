use Rattle.std.proofs.Common.{◌∙◌}
use Rattle.trip_costs.specs.WalkCosts.{timing}
use Rattle.route_flows.proofs.Averaged.{next_are, next_walk}
use Rattle.route_flows.proofs.flows.next_routes.Goals as goal

pub returns-clause-next : goal.returns-clause-next
returns-clause-next g c =
    next_are (timing c.args.costs) c.args.net.now c.args.trips.now c.args.k c.args.routes.now c.as_slice-old.result.now c.in_ok-copies.field-0.items c.in_ok-told.told.walks.items c.renewed.result c.in_ok-asks.asks.items c.deref.result.now
    c.requires.each c.as_slice-old.ensures (c.in_ok-copies.ensures ∙ c.as_slice-old.ensures) c.deref.ensures.value c.in_ok-asks.ensures c.in_ok-told.ensures.walks c.renewed.ensures

pub returns-clause-walks : goal.returns-clause-walks
returns-clause-walks g c =
    next_walk (timing c.args.costs) c.args.net.now c.args.trips.now c.args.k c.args.routes.now c.renewed.result c.requires.walks (returns-clause-next g c)
