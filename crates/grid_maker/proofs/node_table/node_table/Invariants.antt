use Rattle.std.proofs.Common.{◌≡◌, ◌++◌, take}
use Rattle.std.specs.List.{flat_map}
use Rattle.grid_maker.specs.Grid.{node_header, node_line}
use Rattle.grid_maker.proofs.node_table.node_table.Given as goal

abbrev pub invariant-each : goal.invariant-each
invariant-each l = l.text ≡ node_header ++ flat_map (node_line l.side) (take l.place-index l.place-items)
