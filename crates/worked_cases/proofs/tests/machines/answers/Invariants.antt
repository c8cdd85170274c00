use Rattle.std.proofs.Common.{◌≡◌, length}
use Rattle.worked_cases.proofs.tests.machines.answers.Given as goal

abbrev pub invariant-loop-i : goal.invariant-loop-i
invariant-loop-i l = length l.machine.claims.stages ≡ l.workers
