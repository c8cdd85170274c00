use Rattle.dta_model.proofs.Onward.{none_outside}
use Rattle.dta_model.proofs.laws.none_outside.Goals as goal

pub returns : goal.returns
returns c = none_outside
