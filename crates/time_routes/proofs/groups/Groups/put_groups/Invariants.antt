use Rattle.std.proofs.Common.{◌≡◌, length}
use Rattle.std.specs.Prelude.{All}
use Rattle.time_routes.specs.Groups.{IsFound, IsOfGroup}
use Rattle.time_routes.proofs.groups.Groups.put_groups.Given as goal

abbrev pub invariant-each : goal.invariant-each
invariant-each l = record {
  many : length l.found.items ≡ length l.initial.found.items;
  taken : All (IsOfGroup l.self) l.taken.items;
  found : All (IsFound l.self) l.found.items;
}

abbrev pub decreases-each : goal.decreases-each
decreases-each l = goal.left-each l
