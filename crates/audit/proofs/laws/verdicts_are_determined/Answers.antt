use Rattle.audit.proofs.Verdicts.{determined}
use Rattle.audit.proofs.laws.verdicts_are_determined.Goals as goal

pub returns : goal.returns
returns c = determined
