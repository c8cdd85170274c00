use Rattle.std.proofs.Common.{◌∙◌}
use Rattle.capacity_credits.proofs.Skips.{grant_after, grant_gives}
use Rattle.capacity_credits.proofs.credit.Credit.grant.Goals as goal

pub returns-clause-gives : goal.returns-clause-gives
returns-clause-gives c rates grants r e =
    grant_gives rates c.args.delta grants c.args.rate c.self.inside.carried r (c.self.view_is ∙ e)

pub returns-clause-stands : goal.returns-clause-stands
returns-clause-stands c rates grants r e =
    grant_after rates c.args.delta grants c.args.rate c.self.inside.carried r (c.self.view_is ∙ e)
