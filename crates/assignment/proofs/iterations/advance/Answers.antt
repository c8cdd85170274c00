use Rattle.std.proofs.Common.{rules, ap, length, refl, subst, sym, ◌∙◌}
use Rattle.dta_model.specs.Sound.{AreWalks}
use Rattle.link_times.specs.TimeTables.{IsShort}
use Rattle.trip_costs.specs.WalkCosts.{table_in, timing}
use Rattle.gap.specs.Gap.{IsGapLine}
use Rattle.route_flows.specs.Averages.{AreNextRoutes}
use Rattle.assignment.specs.Lent.{settings_in, traffic_in}
use Rattle.assignment.proofs.AssignmentFacts.{has-next, over-timed, table-links, walks-too}
use Rattle.assignment.proofs.iterations.advance.Goals as goal

pub timed-timed-requires : goal.timed-timed-requires
timed-timed-requires g c =
    let a = c.args.assignment.now in
    let table = table-links (settings_in a) (traffic_in a) c.args.it.now.routes (table_in c.lent.result) (c.lent.ensures.times ∙ c.in_ok-costs.ensures.times) in
    record { are = record { table = table; short = subst IsShort (sym c.lent.ensures.times) c.in_ok-costs.ensures.short; few = c.requires.is.traffic.trips.in_order.few } }

pub gap_and_next_routes-requires-clause-routes : goal.gap_and_next_routes-requires-clause-routes
gap_and_next_routes-requires-clause-routes g c κs within =
    let a = c.args.assignment.now in
    let timed = c.timed-timed in
    let old = c.replace-old.result in
    let same = c.replace-old.ensures.value in
    record {
      each = ap length same ∙ c.requires.routes.each ∙ sym (ap length timed.ensures.trips);
      walks = over-timed {s = timing timed.result.costs} (λ t n ts. AreWalks n ts old) refl (sym timed.ensures.net) (sym timed.ensures.trips)
          (walks-too a.net.now a.trips.now old c.args.it.now.routes same c.requires.routes.walks);
    }

pub returns : goal.returns
returns g c =
    let a = c.args.assignment.now in
    let r = c.args.it.now.routes in
    let old = c.replace-old.result in
    let timed = c.timed-timed in
    let line = c.in_ok-line.line in
    let next = c.in_ok-line.next in
    let costs = ap timing timed.ensures.costs in
    has-next (settings_in a) (traffic_in a) c.args.number r old next c.args.it.now.lines.items c.push.new.self.items line (timing c.lent.result)
    (search rules) (c.lent.ensures.costs ∙ c.in_ok-costs.ensures.costs) c.in_ok-push.ensures.items
    (over-timed (λ t n ts. IsGapLine t n ts old line) costs timed.ensures.net timed.ensures.trips c.in_ok-line.ensures.gap)
    (over-timed (λ t n ts. AreNextRoutes t n ts c.args.number old next) costs timed.ensures.net timed.ensures.trips c.in_ok-line.ensures.next)
    (over-timed (λ t n ts. AreWalks n ts next) costs timed.ensures.net timed.ensures.trips c.in_ok-line.ensures.walks)
