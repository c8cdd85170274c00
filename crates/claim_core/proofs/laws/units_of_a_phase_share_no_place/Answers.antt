use Rattle.claim_core.proofs.Places.{no_place_is_shared}
use Rattle.claim_core.proofs.laws.units_of_a_phase_share_no_place.Goals as goal

pub returns : goal.returns
returns c = no_place_is_shared
