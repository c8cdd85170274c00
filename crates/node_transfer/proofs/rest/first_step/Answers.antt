use Rattle.std.proofs.Common.{arith}
use Rattle.node_transfer.proofs.rest.first_step.Goals as goal

pub returns-clause-waits : goal.returns-clause-waits
returns-clause-waits c step h = c.first_of-2.ensures.before step (let e = c.min.ensures in omega (arith, e, h))

pub returns-clause-links : goal.returns-clause-links
returns-clause-links c step h = c.first_of.ensures.before step (let e = c.min.ensures in omega (arith, e, h))
