use Rattle.std.proofs.Common.{◌≡◌, ◌∙◌, ◌+◌, Some, ap, arith, refl}
use Rattle.capacity_credits.proofs.Skips.{no_allowance}
use Rattle.dta_model.specs.Allowance.{allowance}
use Rattle.net_core.specs.Rates.{last_begun, steady}
use Rattle.capacity_credits.proofs.outlook.Outlook.allowance.Goals as goal

pub returns-in-Limit : goal.returns-in-Limit
unfolding last_begun
returns-in-Limit c =
    let rates = steady (Some c.in-Limit.rate) in
    let from_zero : 0 + c.args.step ≡ c.args.step = omega arith in
    rw c.in-Limit.is
    (c.grant_after.ensures rates 0 (λ k b. refl) (c.new.ensures.stands rates c.args.delta)
    ∙ ap (allowance rates c.args.delta) from_zero)

pub returns-in-NoLimit : goal.returns-in-NoLimit
returns-in-NoLimit c = rw c.in-NoLimit.is (no_allowance c.args.delta c.args.step)
