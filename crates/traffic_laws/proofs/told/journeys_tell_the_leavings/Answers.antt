use Rattle.traffic_laws.proofs.Telling.{leavings_are_told}
use Rattle.traffic_laws.proofs.told.journeys_tell_the_leavings.Goals as goal

pub returns : goal.returns
returns c = leavings_are_told
