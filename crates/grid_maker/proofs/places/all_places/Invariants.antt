use Rattle.std.proofs.Common.{◌≡◌}
use Rattle.std.specs.List.{flat_map}
use Rattle.grid_maker.specs.Places.{numbers_below, places_of_row}
use Rattle.grid_maker.proofs.places.all_places.Given as goal

abbrev pub invariant-each : goal.invariant-each
invariant-each l = l.found.items ≡ flat_map (places_of_row l.side) (numbers_below l.row)
