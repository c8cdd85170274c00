use Rattle.traffic_laws.proofs.Flows.{leavings_go_to}
use Rattle.traffic_laws.proofs.buckets.leavings_are_turns_and_arrivals.Goals as goal

pub returns : goal.returns
returns c = leavings_go_to
