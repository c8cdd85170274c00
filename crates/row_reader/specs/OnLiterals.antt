-- What a proof unfolds to compute the rows of a table on a literal.
use Rattle.std.specs.Prelude.{⊤}
use Rattle.std.specs.Char.{encode_utf8}
use Rattle.std.specs.Str.{is_utf8, chars}
use Rattle.csv.proofs.OnLiterals.{csv_on_literals}
use Rattle.csv.specs.Records.{field_at}
use Rattle.row_reader.specs.Trimmed.{drop_blanks}
use Rattle.row_reader.specs.FirstFault.{rows_from, verdict}

unfoldable pub tables_on_literals : ⊤
unfolding csv_on_literals is_utf8 chars encode_utf8 field_at drop_blanks rows_from verdict
tables_on_literals = tt
