use Rattle.traffic_laws.proofs.ReadBack.{link_times_are_read_back}
use Rattle.traffic_laws.proofs.round_trips.link_times_are_read_back.Goals as goal

pub returns : goal.returns
returns c = link_times_are_read_back
