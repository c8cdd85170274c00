use Rattle.std.proofs.Common.{◌≡◌, length, map, take}
use Rattle.csv.specs.Records.{fields_of}
use Rattle.row_reader.specs.Columns.{place_of}
use Rattle.row_reader.specs.declared.faults.TheConstants.{ALL_COLUMNS}
use Rattle.row_reader.proofs.header.Header.of.Given as goal

abbrev pub invariant-loop-number : goal.invariant-loop-number
invariant-loop-number l = (length l.places ≡ 29)
    × (take l.number l.places ≡ take l.number (map (place_of (fields_of l.names)) ALL_COLUMNS))
