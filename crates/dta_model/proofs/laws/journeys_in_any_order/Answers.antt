use Rattle.dta_model.proofs.AnyOrder.{same_journeys}
use Rattle.dta_model.proofs.laws.journeys_in_any_order.Goals as goal

pub returns : goal.returns
returns c = same_journeys
