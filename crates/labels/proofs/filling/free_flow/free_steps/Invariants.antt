use Rattle.std.proofs.Common.{◌≡◌, ◌<◌, ℕ, length, get_or}
use Rattle.trip_costs.specs.WalkCosts.{table_in}
use Rattle.labels.proofs.filling.free_flow.free_steps.Given as goal

abbrev pub invariant-loop-link : goal.invariant-loop-link
invariant-loop-link l = (length l.free.items ≡ l.link) × ((k : ℕ) → k < l.link → get_or l.free.items k 0 ≡ get_or (table_in l.timed.costs).free k 0)
