use Rattle.std.proofs.Common.{subst}
use Rattle.dta_model.specs.LinkTimes.{free_table, time_at}
use Rattle.route_flows.specs.Averages.{AreStartedRoutes}
use Rattle.route_flows.specs.Selection.{free_time}
use Rattle.route_flows.proofs.FreeTimes.{nobody_started}
use Rattle.route_flows.proofs.flows.first_routes.Goals as goal

pub returns-clause-first : goal.returns-clause-first
returns-clause-first g c =
    nobody_started (free_time c.args.net.now) c.args.net.now _ c.args.trips.now _ c.new-start.ensures c.in_ok-routes.ensures.started

pub returns-clause-table : goal.returns-clause-table
returns-clause-table g c bucket some =
    nobody_started (time_at (free_table c.args.net.now bucket c.args.horizon)) c.args.net.now _ c.args.trips.now _ c.new-start.ensures (c.in_ok-routes.ensures.table bucket some)

pub returns-clause-unstarted : goal.returns-clause-unstarted
returns-clause-unstarted g c =
    subst (λ start. AreStartedRoutes c.args.net.now start c.args.trips.now c.in_ok-routes.routes) c.new-start.ensures c.in_ok-routes.ensures.started
