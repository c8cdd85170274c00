use Rattle.std.proofs.Common.{◌≡◌}
use Rattle.worked_cases.proofs.tests.boards.watch.Given as goal

abbrev pub invariant-loop : goal.invariant-loop
invariant-loop g l = (l.sees.board ≡ l.board) × (l.learns.board ≡ l.board)
