use Rattle.claim_core.proofs.Always.{later_are_not}
use Rattle.claim_core.proofs.laws.later_units_are_not.Goals as goal

pub returns : goal.returns
returns c = later_are_not
