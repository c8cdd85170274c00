use Rattle.traffic_laws.proofs.Skimming.{skims_are_no_slower}
use Rattle.traffic_laws.proofs.least_times.no_route_is_faster_than_a_skim.Goals as goal

pub returns : goal.returns
returns c = skims_are_no_slower
