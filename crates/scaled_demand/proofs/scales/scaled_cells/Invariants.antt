use Rattle.std.proofs.Common.{◌≡◌, ◌≤◌, All, take}
use Rattle.fixed_units.specs.declared.quantity.TheConstants.{MOST_THOUSANDTHS}
use Rattle.scaled_demand.specs.Scales.{scaled}
use Rattle.scaled_demand.proofs.scales.scaled_cells.Given as goal

abbrev pub invariant-loop-cell : goal.invariant-loop-cell
invariant-loop-cell l = record {
  are : l.items.items ≡ scaled l.scale (take l.cell-index l.cells);
  volumes : All (λ cell. cell.volume ≤ MOST_THOUSANDTHS) l.items.items;
}
