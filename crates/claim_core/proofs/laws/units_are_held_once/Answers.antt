use Rattle.claim_core.proofs.Always.{none_held_twice}
use Rattle.claim_core.proofs.laws.units_are_held_once.Goals as goal

pub returns : goal.returns
returns c = none_held_twice
