use Rattle.trip_costs.specs.WalkCosts.{timing}
use Rattle.std.proofs.Common.{◌≤◌, refl, ◌∙◌, ap, arith}
use Rattle.gap.specs.RouteTimes.{over_vehicles}
use Rattle.gap.specs.Told.{least_at}
use Rattle.gap.proofs.Sums.{below, line_is}
use Rattle.gap.proofs.measure.line_of.Goals as goal

pub overflow_sub-gap_steps : goal.overflow_sub-gap_steps
overflow_sub-gap_steps c =
    let t = c.args.timed.now in
    let r = c.requires in
    let least = c.all_least_steps-least_steps.ensures ∙ ap (λ n. over_vehicles n (least_at c.args.routes.now c.args.told.now)) r.routes.each in
    below (timing t.costs) t.net.now t.trips.now c.args.routes.now c.args.told.now r.routes.walks r.told _ _ r.steps least

pub returns : goal.returns
returns c =
    let t = c.args.timed.now in
    let r = c.requires in
    let least = c.all_least_steps-least_steps.ensures ∙ ap (λ n. over_vehicles n (least_at c.args.routes.now c.args.told.now)) r.routes.each in
    let low : c.all_least_steps-least_steps.result ≤ c.args.route_steps = below (timing t.costs) t.net.now t.trips.now c.args.routes.now c.args.told.now r.routes.walks r.told _ _ r.steps least in
    line_is (timing t.costs) t.net.now t.trips.now c.args.routes.now c.args.told.now r.routes.walks r.told _ _ _ r.steps least refl refl (omega (arith, low)) c.ppm.ensures
