use Rattle.claim_core.proofs.Always.{earlier_are_finished}
use Rattle.claim_core.proofs.laws.earlier_units_are_finished.Goals as goal

pub returns : goal.returns
returns c = earlier_are_finished
