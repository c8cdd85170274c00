use Rattle.claim_core.proofs.Always.{parts_are_of_whole_steps}
use Rattle.claim_core.proofs.laws.parts_are_of_whole_steps.Goals as goal

pub returns : goal.returns
returns c = parts_are_of_whole_steps
