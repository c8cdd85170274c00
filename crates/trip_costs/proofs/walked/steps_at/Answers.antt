use Rattle.std.proofs.Common.{◌≡◌, ◌∙◌, ap, arith}
use Rattle.std.specs.Prelude.{min}
use Rattle.trip_costs.specs.WalkCosts.{steps_in, table_in}
use Rattle.trip_costs.proofs.Timed.{capped_by, short_by}
use Rattle.trip_costs.proofs.walked.steps_at.Goals as goal

pub returns-clause-is : goal.returns-clause-is
returns-clause-is c =
    let entry : c.min-entry.result ≡ min c.args.step (table_in c.args.costs.now).horizon = c.min-entry.ensures ∙ ap (λ n. min c.args.step n) c.horizon.ensures.is in
    c.steps.ensures.is
    ∙ ap (λ n. steps_in c.args.costs.now c.args.link.0 n) entry
    ∙ capped_by c.args.costs.now c.args.link.0 c.args.step

pub returns-clause-short : goal.returns-clause-short
returns-clause-short c =
    let s = short_by c.args.costs.now c.args.link.0 c.min-entry.result c.requires.short in
    omega (arith, s, c.steps.ensures.is)
