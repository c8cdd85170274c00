use Rattle.claim_core.proofs.Always.{held_were_given}
use Rattle.claim_core.proofs.laws.held_units_were_given.Goals as goal

pub returns : goal.returns
returns c = held_were_given
