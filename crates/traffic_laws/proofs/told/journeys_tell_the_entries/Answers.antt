use Rattle.traffic_laws.proofs.Telling.{entries_are_told}
use Rattle.traffic_laws.proofs.told.journeys_tell_the_entries.Goals as goal

pub returns : goal.returns
returns c = entries_are_told
