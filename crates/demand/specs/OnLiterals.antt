-- What a proof unfolds to compute the rows of a demand table on a literal.
use Rattle.std.specs.Prelude.{⊤}
use Rattle.fixed_units.specs.Quantity.{number}
use Rattle.row_reader.specs.Fields.{identifier, quantity}
use Rattle.row_reader.specs.OnLiterals.{tables_on_literals}
use Rattle.demand.specs.DemandRows.{demand_cell_of, step_or}

unfoldable pub demand_on_literals : ⊤
unfolding tables_on_literals number identifier quantity step_or demand_cell_of
demand_on_literals = tt
