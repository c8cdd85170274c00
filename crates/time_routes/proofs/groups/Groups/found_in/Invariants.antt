use Rattle.std.proofs.Common.{◌≡◌, length}
use Rattle.std.specs.Prelude.{All, IfOk}
use Rattle.time_routes.specs.Groups.{IsFound, IsOfGroup}
use Rattle.time_routes.proofs.groups.Groups.found_in.Given as goal

abbrev pub invariant-each : goal.invariant-each
invariant-each l = record {
  many : length l.found.items ≡ l.groups;
  worked : All (λ taken. IfOk taken (λ taken. All (IsOfGroup l.self) taken.items)) l.worked.items;
  found : All (IsFound l.self) l.found.items;
}

abbrev pub decreases-each : goal.decreases-each
decreases-each l = length l.worked.items
