use Rattle.std.proofs.Common.{◌+◌, ◌*◌, ◌%◌, ◌∙◌, ap}
use Rattle.capacity_credits.proofs.Skips.{skip_after, skip_parts}
use Rattle.capacity_credits.proofs.credit.Credit.skip.Goals as goal

pub returns-clause-carried : goal.returns-clause-carried
returns-clause-carried c =
    skip_parts c.self.inside.carried (c.args.rate * c.args.delta) c.args.steps
    ∙ ap (λ k. (k + c.args.steps * (c.args.rate * c.args.delta)) % 3600000000) c.self.view_is

pub returns-clause-stands : goal.returns-clause-stands
returns-clause-stands c rates grants r e =
    skip_parts c.self.inside.carried (c.args.rate * c.args.delta) c.args.steps
    ∙ ap (λ k. (k + c.args.steps * (c.args.rate * c.args.delta)) % 3600000000) (c.self.view_is ∙ e)
    ∙ skip_after rates c.args.delta grants c.args.rate c.args.steps r
