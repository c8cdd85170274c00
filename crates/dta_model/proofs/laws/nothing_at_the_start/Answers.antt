use Rattle.dta_model.proofs.Start.{nothing_at_the_start}
use Rattle.dta_model.proofs.laws.nothing_at_the_start.Goals as goal

pub returns : goal.returns
returns c = nothing_at_the_start
