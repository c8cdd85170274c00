-- What a proof unfolds to compute the rows of an agent table on a literal.
use Rattle.std.specs.Prelude.{⊤}
use Rattle.fixed_units.specs.Quantity.{number}
use Rattle.row_reader.specs.Fields.{identifier}
use Rattle.row_reader.specs.OnLiterals.{tables_on_literals}
use Rattle.start_table.specs.StartTable.{ids_in}
use Rattle.agent_table.specs.Agents.{agent_row_of, optional_identifier}

unfoldable pub agents_on_literals : ⊤
unfolding tables_on_literals number identifier ids_in agent_row_of optional_identifier
agents_on_literals = tt
