-- The identifiers in a field of links, and the number of a limit.
use Rattle.std.specs.Prelude.{◌≡◌, [], ◌∷◌, refl, codes, Ok, Err}
use Rattle.fixed_units.specs.Quantity.{number}
use Rattle.row_reader.specs.Fields.{complain}
use Rattle.row_reader.specs.declared.faults.Code.TheVariants.{E4, E5}
use Rattle.row_reader.specs.declared.faults.Column.TheVariants.{LinkIds}
use Rattle.start_table.specs.StartTable.{ids_in}
use Rattle.start_table.specs.declared.rows.TheConstants.{MOST_START_ROWS}

no_identifiers : ids_in LinkIds [] ≡ Ok []
unfolding ids_in
no_identifiers = refl

two_identifiers : ids_in LinkIds (codes "20;30.0") ≡ Ok (20 ∷ 30 ∷ [])
unfolding ids_in number
two_identifiers = refl

-- a piece isn't trimmed
a_space_in_a_piece : ids_in LinkIds (codes "20; 30") ≡ Err (complain E4 LinkIds)
unfolding ids_in number
a_space_in_a_piece = refl

an_empty_piece : ids_in LinkIds (codes "20;") ≡ Err (complain E4 LinkIds)
unfolding ids_in number
an_empty_piece = refl

out_of_range : ids_in LinkIds (codes "9223372036854775808;30") ≡ Err (complain E5 LinkIds)
unfolding ids_in number
out_of_range = refl

-- the form of any piece comes before the range of an earlier one
no_number_after_it : ids_in LinkIds (codes "9223372036854775808;x") ≡ Err (complain E4 LinkIds)
unfolding ids_in number
no_number_after_it = refl

-- the limit
all_start_rows : MOST_START_ROWS ≡ 2000000
all_start_rows = refl
