use Rattle.dta_model.proofs.Releases.{trips_are_released}
use Rattle.dta_model.proofs.laws.trips_are_released.Goals as goal

pub returns : goal.returns
returns c = trips_are_released
