use Rattle.traffic_laws.proofs.BucketTimes.{entered_are_counted}
use Rattle.traffic_laws.proofs.buckets.entered_are_those_who_entered_then.Goals as goal

pub returns : goal.returns
returns c = entered_are_counted
