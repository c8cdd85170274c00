use Rattle.traffic_laws.proofs.BucketTimes.{times_are_not_below_free}
use Rattle.traffic_laws.proofs.buckets.link_times_are_not_below_free_flow.Goals as goal

pub returns : goal.returns
returns c = times_are_not_below_free
