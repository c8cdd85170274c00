use Rattle.std.proofs.Common.{ap, ◌∙◌}
use Rattle.dta_model.specs.LinkTimes.{table_of}
use Rattle.trip_costs.specs.LoadingCosts.{costs_by}
use Rattle.assignment.proofs.iterations.costs_of.Goals as goal

pub returns-clause-costs : goal.returns-clause-costs
returns-clause-costs c =
    let s = c.args.assignment.now.settings.now in
    c.in_ok-costs.ensures.costs ∙ ap (λ p. costs_by s.costs p s.bucket) c.loading-loading.ensures.plan

pub returns-clause-times : goal.returns-clause-times
returns-clause-times c =
    c.in_ok-costs.ensures.times ∙ ap (λ p. table_of p c.args.assignment.now.settings.now.bucket) c.loading-loading.ensures.plan
