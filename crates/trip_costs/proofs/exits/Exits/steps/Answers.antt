use Rattle.std.proofs.Common.{◌≡◌, ◌-◌, ◌∙◌, ap}
use Rattle.std.specs.Prelude.{min}
use Rattle.trip_costs.specs.TripCosts.{steps_by_trips}
use Rattle.trip_costs.proofs.Walks.{steps_capped}
use Rattle.trip_costs.proofs.exits.Exits.steps.Goals as goal

pub returns-clause-is : goal.returns-clause-is
returns-clause-is c =
    let entry : c.min-entry.result ≡ min c.args.step c.args.self.now.horizon = c.min-entry.ensures ∙ ap (λ n. min c.args.step n) (c.horizon.ensures.is ∙ ap (λ t. t.horizon) c.self.view_is) in
    ap (λ n. n - c.min-entry.result) c.exit.ensures.step
    ∙ ap (λ n. steps_by_trips c.args.self.now c.args.link.0 n) entry
    ∙ steps_capped c.args.self.now c.args.link.0 c.args.step
