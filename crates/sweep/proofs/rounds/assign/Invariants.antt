use Rattle.std.proofs.Common.{◌≤◌}
use Rattle.assignment.specs.Lent.{settings_in, traffic_in}
use Rattle.assignment.specs.Progress.{IsAt}
use Rattle.sweep.proofs.rounds.assign.Given as goal

abbrev pub invariant-loop-iteration : goal.invariant-loop-iteration
invariant-loop-iteration g l = record {
  some : 1 ≤ l.iteration;
  at : IsAt (settings_in l.assignment) (traffic_in l.assignment) l.iteration l.it.routes l.it.lines.items;
}
