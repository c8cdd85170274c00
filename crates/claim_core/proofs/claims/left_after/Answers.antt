use Rattle.claim_core.proofs.Holds.{none_left, some_left}
use Rattle.claim_core.proofs.claims.left_after.Goals as goal

pub returns-then-middle-end : goal.returns-then-middle-end
returns-then-middle-end c = some_left c.args.middle c.args.end c.if-middle-end.true

pub returns-else-middle-end : goal.returns-else-middle-end
returns-else-middle-end c = none_left c.args.middle c.args.end c.if-middle-end.false
