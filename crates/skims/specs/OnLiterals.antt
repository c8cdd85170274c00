-- What a proof unfolds to compute the rows of a times table on a literal.
use Rattle.std.specs.Prelude.{⊤}
use Rattle.fixed_units.specs.Quantity.{number}
use Rattle.row_reader.specs.Fields.{identifier}
use Rattle.row_reader.specs.OnLiterals.{tables_on_literals}
use Rattle.skims.specs.TimesTable.{link_of, same_number, time_row_of, travel_of}

unfoldable pub times_on_literals : ⊤
unfolding tables_on_literals number identifier link_of same_number time_row_of travel_of
times_on_literals = tt
