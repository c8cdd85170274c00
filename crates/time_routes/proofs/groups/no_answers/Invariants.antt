use Rattle.std.proofs.Common.{◌≡◌, None, replicate}
use Rattle.time_routes.proofs.groups.no_answers.Given as goal

abbrev pub invariant-loop : goal.invariant-loop
invariant-loop l = l.found.items ≡ replicate l.counter None
