use Rattle.std.proofs.Common.{◌≡◌, ◌≤◌, ◌<◌, ℕ, false}
use Rattle.route_flows.specs.Selection.{renews}
use Rattle.route_flows.proofs.since.last_renewal.Given as goal

abbrev pub invariant-loop-k : goal.invariant-loop-k
invariant-loop-k l = record {
  within : l.k ≤ l.iterations;
  later : (j : ℕ) → l.k ≤ j → j < l.iterations → renews l.by j l.vehicle ≡ false;
}

abbrev pub decreases-loop-k : goal.decreases-loop-k
decreases-loop-k l = l.k
