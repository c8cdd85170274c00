use Rattle.traffic_laws.proofs.Flows.{entries_come_from}
use Rattle.traffic_laws.proofs.buckets.entries_are_departures_and_turns.Goals as goal

pub returns : goal.returns
returns c = entries_come_from
