use Rattle.traffic_laws.proofs.Storing.{entries_follow_the_wave}
use Rattle.traffic_laws.proofs.storage.entries_follow_the_wave.Goals as goal

pub returns : goal.returns
returns c = entries_follow_the_wave
