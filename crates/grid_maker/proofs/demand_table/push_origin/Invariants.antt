use Rattle.std.proofs.Common.{◌≡◌, ◌++◌, ◌-◌}
use Rattle.std.specs.List.{flat_map, range_with_len}
use Rattle.grid_maker.specs.Grid.{demand_line}
use Rattle.grid_maker.proofs.demand_table.push_origin.Given as goal

abbrev pub invariant-each : goal.invariant-each
invariant-each l = l.text ≡ l.fn.text ++ flat_map (demand_line l.side l.origin) (range_with_len 1 (l.destination - 1))
