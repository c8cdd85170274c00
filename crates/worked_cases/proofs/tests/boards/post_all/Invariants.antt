use Rattle.std.proofs.Common.{◌≡◌, ◌+◌}
use Rattle.monitors.specs.Examples.{running_after}
use Rattle.monitors.specs.Posted.{IsLater}
use Rattle.worked_cases.proofs.tests.boards.post_all.Given as goal

abbrev pub invariant-loop-done : goal.invariant-loop-done
invariant-loop-done g l =
    (l.writer.board ≡ l.board) × IsLater (running_after (l.done + 1)) l.writer.list
