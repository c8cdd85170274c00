use Rattle.claim_core.proofs.Places.{places_do_rise}
use Rattle.claim_core.proofs.laws.places_rise.Goals as goal

pub returns : goal.returns
returns c = places_do_rise
