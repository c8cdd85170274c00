use Rattle.dta_model.proofs.Left.{steps_are_below}
use Rattle.dta_model.proofs.laws.steps_are_below.Goals as goal

pub returns : goal.returns
returns c = steps_are_below
