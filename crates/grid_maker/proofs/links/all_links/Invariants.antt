use Rattle.std.proofs.Common.{◌≡◌, take}
use Rattle.std.specs.List.{flat_map}
use Rattle.grid_maker.specs.Links.{links_from}
use Rattle.grid_maker.proofs.links.all_links.Given as goal

abbrev pub invariant-each : goal.invariant-each
invariant-each l = l.found.items ≡ flat_map (links_from l.side) (take l.place-index l.place-items)
