use Rattle.std.proofs.Common.{◌<◌, ◌≤◌, ℕ, get_or}
use Rattle.dta_model.specs.LinkTimes.{bucket_count, place_in, time_at}
use Rattle.labels.proofs.states.longest_way.most_of.Given as goal

abbrev pub invariant-loop-bucket : goal.invariant-loop-bucket
invariant-loop-bucket l = record {
  late : time_at l.times l.link l.times.horizon ≤ l.most;
  before : (b : ℕ) → b < l.bucket → get_or l.times.times (place_in (bucket_count l.times) l.link b) 0 ≤ l.most;
}
