use Rattle.std.proofs.Common.{ℕ, ◌*◌, ◌≤◌, rules, subst, sym}
use Rattle.std.proofs.lemmas.Result.{err_from_is_err_and}
use Rattle.reports.specs.declared.refusal.TheConstants.{MOST_SWEEP_LINK_STEPS}
use Rattle.jobs.proofs.JobFacts.{scale-stops}
use Rattle.jobs.proofs.sweep_job.sweep_sizes.Goals as goal

pub returns-in_err-check_scales-clause-stops : goal.returns-in_err-check_scales-clause-stops
returns-in_err-check_scales-clause-stops c = λ rows many cells.
    let p = err_from_is_err_and c.from_residual.result c.from_residual.ensures.1 in
    let horizon = c.args.settings.now.horizon in
    let low : c.args.links * horizon ≤ MOST_SWEEP_LINK_STEPS = search rules in
    let room = subst (λ (n : ℕ). n * horizon ≤ MOST_SWEEP_LINK_STEPS) (sym many) low in
    rw (p.1, p.2) (scale-stops c.args.settings.now rows c.args.demand_cells.now c.as_slice.result.now c.check_scales.result c.in_err-check_scales.field-0.0
    c.in_err-check_scales.was room cells c.as_slice.ensures c.check_scales.ensures.too_many)
