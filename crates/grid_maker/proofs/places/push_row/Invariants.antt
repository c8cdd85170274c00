use Rattle.std.proofs.Common.{◌≡◌, ◌++◌}
use Rattle.grid_maker.specs.Places.{places_of_row}
use Rattle.grid_maker.proofs.places.push_row.Given as goal

abbrev pub invariant-each : goal.invariant-each
invariant-each l = l.found.items ≡ l.fn.found.items ++ places_of_row l.column l.row
