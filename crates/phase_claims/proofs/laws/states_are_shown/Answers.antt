use Rattle.phase_claims.proofs.PlacesShown.{states_are_shown}
use Rattle.phase_claims.proofs.laws.states_are_shown.Goals as goal

pub returns : goal.returns
returns c = states_are_shown
