use Rattle.std.proofs.Common.{◌≤◌, ◌<◌, ℕ, get_or}
use Rattle.labels.specs.Filling.Labels.{far}
use Rattle.labels.specs.Filling.Tails.{most_tail}
use Rattle.labels.proofs.filling.tails.most_in.Given as goal

abbrev pub invariant-loop-state : goal.invariant-loop-state
invariant-loop-state l = (l.before ≤ l.most) × ((s : ℕ) → s < l.state → get_or l.tail s 0 < far → get_or l.tail s 0 ≤ l.most) × (l.before ≤ most_tail → l.most ≤ most_tail)
