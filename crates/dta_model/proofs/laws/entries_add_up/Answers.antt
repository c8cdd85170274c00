use Rattle.dta_model.proofs.Left.{entries_add_up}
use Rattle.dta_model.proofs.laws.entries_add_up.Goals as goal

pub returns : goal.returns
returns c = entries_add_up
