use Rattle.std.proofs.Common.{refl}
use Rattle.net_core.specs.Rates.{last_begun}
use Rattle.capacity_credits.proofs.outlook.Outlook.open.Goals as goal

pub returns-in-Limit-clause-unlimited : goal.returns-in-Limit-clause-unlimited
unfolding last_begun
returns-in-Limit-clause-unlimited c = rw c.in-Limit.is refl

pub returns-in-NoLimit-clause-unlimited : goal.returns-in-NoLimit-clause-unlimited
unfolding last_begun
returns-in-NoLimit-clause-unlimited c = rw c.in-NoLimit.is refl
