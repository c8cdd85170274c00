use Rattle.std.proofs.lemmas.Result.{err_from_is_err_and}
use Rattle.scaled_demand.proofs.LimitFacts.{told-again, told-within}
use Rattle.sweep.proofs.rounds.sweep.Goals as goal

pub returns-in_err-all-clause-too_many : goal.returns-in_err-all-clause-too_many
returns-in_err-all-clause-too_many g c =
    let p = err_from_is_err_and c.from_residual-in_err-all.result c.from_residual-in_err-all.ensures.1 in
    told-within c.args.cells.now c.args.scales.now _ c.in_ok-check_scales.ensures.ok_within (λ scenario line total e. cc (p.1, p.2, e))

pub returns-clause-too_many : goal.returns-clause-too_many
returns-clause-too_many g c =
    told-within c.args.cells.now c.args.scales.now _ c.in_ok-check_scales.ensures.ok_within (λ scenario line total e. cc)

pub returns-in_err-check_scales-clause-too_many : goal.returns-in_err-check_scales-clause-too_many
returns-in_err-check_scales-clause-too_many g c =
    let p = err_from_is_err_and c.from_residual.result c.from_residual.ensures.1 in
    rw (p.1, p.2) (told-again c.args.cells.now c.args.scales.now _ c.in_err-check_scales.ensures.too_many)
