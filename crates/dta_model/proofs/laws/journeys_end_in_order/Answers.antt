use Rattle.dta_model.proofs.Ends.{journeys_end_in_order}
use Rattle.dta_model.proofs.laws.journeys_end_in_order.Goals as goal

pub returns : goal.returns
returns c = journeys_end_in_order
