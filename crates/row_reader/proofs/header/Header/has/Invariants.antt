use Rattle.std.proofs.Common.{◌≡◌, drop}
use Rattle.row_reader.specs.Fields.{has_columns}
use Rattle.row_reader.proofs.header.Header.has.Given as goal

abbrev pub invariant-loop-column : goal.invariant-loop-column
invariant-loop-column l = has_columns l.self l.required ≡ has_columns l.self (drop l.column-index l.required)
