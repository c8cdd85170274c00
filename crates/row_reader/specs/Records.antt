-- The records of a table.
use Rattle.std.specs.Prelude.{ℕ, ◌==◌, ◌&&◌, Bool, List, length}
use Rattle.std.specs.List.{list_all}
use Rattle.std.specs.Str.{is_utf8}
use Rattle.csv.specs.Reading as reading

-- a record by its fields, each by its bytes
abbrev pub Record : Type 0
Record = List (List ℕ)

-- the records of a table's bytes: no line is kept apart as a header, and a byte order mark is
-- dropped once
abbrev pub records : List ℕ → List Record
records bytes = reading.records reading.default_config (reading.strip_bom bytes)

-- each field of a record is text
abbrev pub is_text : Record → Bool
is_text r = list_all is_utf8 r

-- a record under a header: as long as the header, and text
abbrev pub is_good : Record → Record → Bool
is_good header r = (length r == length header) && is_text r
