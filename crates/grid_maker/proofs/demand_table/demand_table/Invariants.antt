use Rattle.std.proofs.Common.{◌≡◌, ◌++◌, ◌-◌}
use Rattle.std.specs.List.{flat_map, range_with_len}
use Rattle.grid_maker.specs.Grid.{demand_header, demand_line, zones}
use Rattle.grid_maker.proofs.demand_table.demand_table.Given as goal

abbrev pub invariant-each : goal.invariant-each
invariant-each l = l.text ≡ demand_header ++ flat_map (λ origin. flat_map (demand_line l.side origin) zones) (range_with_len 1 (l.origin - 1))
