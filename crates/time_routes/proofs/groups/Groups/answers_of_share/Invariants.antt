use Rattle.std.specs.Prelude.{All}
use Rattle.time_routes.specs.Groups.{IsOfGroup}
use Rattle.time_routes.proofs.groups.Groups.answers_of_share.Given as goal

abbrev pub invariant-loop : goal.invariant-loop
invariant-loop l = All (IsOfGroup l.self) l.taken.items
