use Rattle.std.proofs.Common.{◌≡◌, drop}
use Rattle.std.specs.List.{position_from}
use Rattle.csv.specs.Records.{fields_of}
use Rattle.row_reader.specs.Columns.{column_of, is_named}
use Rattle.row_reader.proofs.header.column_in.Given as goal

abbrev pub invariant-loop-place : goal.invariant-loop-place
invariant-loop-place l = column_of (fields_of l.names) l.name ≡ position_from (is_named l.name) l.place (drop l.place (fields_of l.names))
