use Rattle.claim_core.proofs.Always.{open_are_of_the_phase}
use Rattle.claim_core.proofs.laws.open_units_are_of_the_phase.Goals as goal

pub returns : goal.returns
returns c = open_are_of_the_phase
