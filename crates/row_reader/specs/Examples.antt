-- Small tables worked out.
-- A line ends in 10, or in 13 and 10; 34 is a quote, 32 a space, 9 a tab, and 239 187 191 a byte
-- order mark.
use Rattle.std.specs.Prelude.{ℕ, ◌≡◌, List, [], ◌∷◌, ◌++◌, length, nat_eq, Result, Ok, Err, None}
use Rattle.std.specs.Prelude.{Some, codes, refl, true, false}
use Rattle.std.specs.List.{list_any}
use Rattle.std.specs.Str.{bytes_eq}
use Rattle.desk_io.specs.declared.desk.Table.TheVariants as table
use Rattle.fixed_units.specs.Quantity.{number}
use Rattle.row_reader.specs.Records.{Record, records, is_good}
use Rattle.row_reader.specs.Trimmed.{trimmed}
use Rattle.row_reader.specs.Columns.{column_of, field_in, text}
use Rattle.row_reader.specs.Rows.{FieldsView}
use Rattle.row_reader.specs.Fields.{has_columns, then_with, unless, within, identifier, quantity}
use Rattle.row_reader.specs.Fields.{quantity_or, optional_quantity}
use Rattle.row_reader.specs.FirstFault.{Checks, verdict}
use Rattle.row_reader.specs.declared.faults.Code.{Code}
use Rattle.row_reader.specs.declared.faults.Code.TheVariants as code
use Rattle.row_reader.specs.declared.faults.Column.{Column}
use Rattle.row_reader.specs.declared.faults.Column.TheVariants as column
use Rattle.row_reader.specs.declared.faults.TableFault.{TableFault}
use Rattle.row_reader.specs.OnLiterals.{tables_on_literals}

-- a line ends in either way, the last one also at the end of the text, and an empty line is no
-- record
line_ends : records (codes "id,zone" ++ 13 ∷ 10 ∷ codes "1,7" ++ 10 ∷ 10 ∷ codes "2,")
    ≡ (codes "id" ∷ codes "zone" ∷ []) ∷ (codes "1" ∷ codes "7" ∷ []) ∷ (codes "2" ∷ [] ∷ []) ∷ []
unfolding tables_on_literals
line_ends = refl

-- a field in quotes may have a comma, a line end, and a quote written twice
quoted : records (34 ∷ codes "a,b" ++ 10 ∷ 34 ∷ 34 ∷ 34 ∷ codes ",c" ++ 10 ∷ [])
    ≡ ((codes "a,b" ++ 10 ∷ 34 ∷ []) ∷ codes "c" ∷ []) ∷ []
unfolding tables_on_literals
quoted = refl

-- one byte order mark is dropped, and a second one is a part of the first field
marked : records (239 ∷ 187 ∷ 191 ∷ codes "id") ≡ (codes "id" ∷ []) ∷ []
unfolding tables_on_literals
marked = refl

marked_twice : records (239 ∷ 187 ∷ 191 ∷ 239 ∷ 187 ∷ 191 ∷ codes "id")
    ≡ ((239 ∷ 187 ∷ 191 ∷ codes "id") ∷ []) ∷ []
unfolding tables_on_literals
marked_twice = refl

-- line ends and a byte order mark alone are no record
no_record : records (239 ∷ 187 ∷ 191 ∷ 13 ∷ 10 ∷ 10 ∷ []) ≡ []
unfolding tables_on_literals
no_record = refl

-- only spaces and tabs at the ends are blanks
blanks : trimmed (32 ∷ 9 ∷ 97 ∷ 32 ∷ 98 ∷ 9 ∷ 32 ∷ []) ≡ 97 ∷ 32 ∷ 98 ∷ []
unfolding tables_on_literals
blanks = refl

all_blanks : trimmed (32 ∷ 9 ∷ 32 ∷ []) ≡ []
unfolding tables_on_literals
all_blanks = refl

-- the header of the examples, where a name stands twice
header : Record
header = (32 ∷ codes "id" ++ 9 ∷ []) ∷ codes "zone_id" ∷ codes "id" ∷ []

-- the first of two places, whatever blanks stand round the name
first_place : column_of header (codes "id") ≡ Some 0
unfolding tables_on_literals header
first_place = refl

other_place : column_of header (codes "zone_id") ≡ Some 1
unfolding tables_on_literals header
other_place = refl

no_place : column_of header (codes "ID") ≡ None
unfolding tables_on_literals header
no_place = refl

-- a field that is there, a place past the record, and a column that is missing
field_there : field_in (codes "1" ∷ (32 ∷ codes "7") ∷ []) (Some 1) ≡ codes "7"
unfolding tables_on_literals
field_there = refl

field_past : field_in (codes "1" ∷ codes "7" ∷ []) (Some 2) ≡ []
unfolding tables_on_literals
field_past = refl

field_missing : field_in (codes "1" ∷ codes "7" ∷ []) None ≡ []
field_missing = refl

-- what a column says in a record, and of the columns that a header lacks the first
said : text (record { header = header; fields = codes "1" ∷ codes " 7" ∷ codes "2" ∷ []; line = 2 })
    column.ZoneId ≡ codes "7"
unfolding tables_on_literals header
said = refl

unsaid : text
    (record { header = header; fields = codes "1" ∷ codes "7" ∷ codes "2" ∷ []; line = 2 })
    column.NodeId ≡ []
unfolding tables_on_literals header
unsaid = refl

lacking : has_columns header (column.ZoneId ∷ column.Volume ∷ column.NodeId ∷ [])
    ≡ Err (record { code = code.E1; column = column.Volume })
unfolding tables_on_literals header
lacking = refl

-- a record of another length than the header, and one that isn't text
too_short : is_good (codes "id" ∷ codes "zone" ∷ []) (codes "1" ∷ []) ≡ false
unfolding tables_on_literals
too_short = refl

no_text : is_good (codes "id" ∷ []) ((255 ∷ []) ∷ []) ≡ false
unfolding tables_on_literals
no_text = refl

good : is_good (codes "id" ∷ []) ((195 ∷ 169 ∷ []) ∷ []) ≡ true
unfolding tables_on_literals
good = refl

-- a table of names that may have two rows: its column is `name`, and a name isn't empty and has no
-- earlier row
names : List Record → Result (List (List ℕ)) TableFault
names = verdict table.Node 2 (column.NodeId ∷ []) name_of
  where
    name_in : FieldsView → List ℕ
    name_in r = text r column.NodeId

    name_of : Checks (List ℕ)
    name_of before r =
        then_with (unless (nat_eq (length (name_in r)) 0) code.E3 column.NodeId) (λ filled.
        then_with (unless (list_any (bytes_eq (name_in r)) before) code.E6 column.NodeId)
        (λ new. Ok (name_in r)))

-- a fault of that table
fault : ℕ → Code → Column → TableFault
fault line why what = record { table = table.Node; line = line; code = why; column = what }

two_names : names (records (codes "node_id" ++ 10 ∷ codes "ann" ++ 10 ∷ codes "bo" ++ 10 ∷ []))
    ≡ Ok (codes "ann" ∷ codes "bo" ∷ [])
unfolding tables_on_literals names
two_names = refl

no_names : names (records (codes "id,node_id")) ≡ Ok []
unfolding tables_on_literals names
no_names = refl

-- a text without records has a header of no columns, and so lacks the column
empty_text : names (records []) ≡ Err (fault 1 code.E1 column.NodeId)
unfolding tables_on_literals names fault
empty_text = refl

no_column : names (records (codes "node" ++ 10 ∷ codes "ann")) ≡ Err (fault 1 code.E1 column.NodeId)
unfolding tables_on_literals names fault
no_column = refl

-- a header that isn't text, whether it lacks the column or has it
no_text_header : names (records (codes "node," ++ 255 ∷ [])) ≡ Err (fault 1 code.E2 column.NoColumn)
unfolding tables_on_literals names fault
no_text_header = refl

-- a later name is the same as an earlier one
twice : names (records (codes "node_id" ++ 10 ∷ codes "ann" ++ 10 ∷ codes "ann" ++ 10 ∷ []))
    ≡ Err (fault 3 code.E6 column.NodeId)
unfolding tables_on_literals names fault
twice = refl

-- two faults in two lines: the first line's is told
two_lines : names (records (codes "node_id" ++ 10 ∷ 32 ∷ 10 ∷ codes "ann,1" ++ 10 ∷ []))
    ≡ Err (fault 2 code.E3 column.NodeId)
unfolding tables_on_literals names fault
two_lines = refl

-- two faults in one line: a record that isn't good comes before one too many, and that before an
-- empty field
bad_and_many :
    names (records (codes "node_id" ++ 10 ∷ codes "a" ++ 10 ∷ codes "b" ++ 10 ∷ codes "c,1"))
    ≡ Err (fault 4 code.E2 column.NoColumn)
unfolding tables_on_literals names fault
bad_and_many = refl

many_and_empty :
    names (records (codes "node_id" ++ 10 ∷ codes "a" ++ 10 ∷ codes "b" ++ 10 ∷ 32 ∷ []))
    ≡ Err (fault 4 code.E12 column.NoColumn)
unfolding tables_on_literals names fault
many_and_empty = refl

-- a field's checks in their order: empty, then its form, then its range
required_empty : identifier column.LinkId []
    ≡ Err (record { code = code.E3; column = column.LinkId })
unfolding identifier
required_empty = refl

required_form : identifier column.LinkId (codes "1e2")
    ≡ Err (record { code = code.E4; column = column.LinkId })
unfolding identifier number
required_form = refl

required_range : identifier column.LinkId (codes "-1")
    ≡ Err (record { code = code.E5; column = column.LinkId })
unfolding identifier number
required_range = refl

required_value : identifier column.LinkId (codes "7.0") ≡ Ok 7
unfolding identifier number
required_value = refl

quantity_empty : quantity column.Length [] ≡ Err (record { code = code.E3; column = column.Length })
unfolding quantity
quantity_empty = refl

quantity_value : quantity column.Length (codes "0.5") ≡ Ok 500
unfolding quantity number
quantity_value = refl

default_value : quantity_or 1800000 column.Capacity [] ≡ Ok 1800000
unfolding quantity_or
default_value = refl

no_value : optional_quantity column.Capacity [] ≡ Ok None
unfolding optional_quantity
no_value = refl

some_value : optional_quantity column.Capacity (codes "2") ≡ Ok (Some 2000)
unfolding optional_quantity number
some_value = refl

bound_low : within column.FreeSpeed 1 10 0
    ≡ Err (record { code = code.E5; column = column.FreeSpeed })
bound_low = refl

bound_high : within column.FreeSpeed 1 10 10 ≡ Ok 10
bound_high = refl
