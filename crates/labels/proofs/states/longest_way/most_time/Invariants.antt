use Rattle.std.proofs.Common.{◌≤◌, ◌<◌, ℕ}
use Rattle.dta_model.specs.LinkTimes.{time_at}
use Rattle.labels.proofs.states.longest_way.most_time.Given as goal

abbrev pub invariant-loop-link : goal.invariant-loop-link
invariant-loop-link l = (k e : ℕ) → k < l.link → time_at l.times k e ≤ l.most
