use Rattle.dta_model.proofs.Even.{departures_are_even}
use Rattle.dta_model.proofs.laws.departures_are_even.Goals as goal

pub returns : goal.returns
returns c = departures_are_even
