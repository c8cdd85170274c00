use Rattle.dta_model.proofs.Left.{one_step_is_spatial}
use Rattle.dta_model.proofs.laws.one_step_is_spatial.Goals as goal

pub returns : goal.returns
returns c = one_step_is_spatial
