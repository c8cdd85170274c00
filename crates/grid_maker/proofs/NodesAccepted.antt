-- The node table of a grid, as its reader defines what it says.
use Rattle.std.proofs.Common.{◌≡◌, ℕ, ◌+◌, ◌*◌, ◌≤◌, List, [], ◌∷◌, length, get_or, append_assoc, map, Option, Some, Ok, codes, decimal, refl, sym, ap, ◌∙◌, arith, mul-le-mul, length-append}
use Rattle.std.specs.Fmt.{digits}
use Rattle.std.specs.List.{range_with_len}
use Rattle.std.proofs.lemmas.Str.{IsUtf8-from_is_utf8}
use Rattle.std.proofs.lemmas.Fmt.{length-decimal-le}
use Rattle.csv.specs.Records.{field_at}
use Rattle.csv.specs.Writing.{default_writer, fields_text, is_blank, row_text}
use Rattle.desk_io.specs.declared.transfers.TheConstants.{MOST_TABLE_BYTES}
use Rattle.desk_io.specs.declared.desk.Table.TheVariants as table
use Rattle.fixed_units.specs.Quantity.{number}
use Rattle.fixed_units.specs.Zone.{zone_of}
use Rattle.row_reader.specs.Columns.{place_of}
use Rattle.row_reader.specs.OnLiterals.{tables_on_literals}
use Rattle.row_reader.specs.Records.{Record, records}
use Rattle.row_reader.specs.Trimmed.{trimmed}
use Rattle.row_reader.specs.declared.faults.Column.TheVariants as column
use Rattle.net_core.specs.Rows.{node_ids}
use Rattle.net_core.specs.declared.rows.TheConstants.{MOST_NODES}
use Rattle.gmns_tables.specs.Nodes.{node_of, node_verdict, zone_told}
use Rattle.grid_maker.specs.declared.places.Place.{Place}
use Rattle.grid_maker.specs.Grid.{node_header, node_line, node_text, zone_field}
use Rattle.grid_maker.specs.GridsAreAccepted.{node_row, node_rows}
use Rattle.grid_maker.specs.Places.{node_id, places, zone_id}
use Rattle.grid_maker.proofs.LinesFacts.{AreFields, IsField, line-is, place-nowhere, table-accepted}
use Rattle.grid_maker.proofs.PlacesFacts.{IsInside, inside-below, one-of-four, place-count, place-ids, places-inside, length-flat}
use Rattle.grid_maker.proofs.WrittenFacts.{decimal-field, identifier-read}

-- the greatest grid has 3600 nodes
pub few-nodes : (n : ℕ) → n ≤ 60 → n * n ≤ 3600
few-nodes n h = mul-le-mul h h

pub small-id : (n : ℕ) (place : Place) → n ≤ 60 → IsInside n place → node_id n place ≤ 3600
small-id n place h i = let k = inside-below n place i in let few = few-nodes n h in omega arith

-- a zone field is read as its zone
record IsZoneField (zone : Option ℕ) : Type 0 where
  field : IsField (zone_field zone)
  short : length (zone_field zone) ≤ 1
  read : zone_told (zone_of (trimmed (zone_field zone))) ≡ Ok zone

zone-read : (n : ℕ) (place : Place) → IsZoneField (zone_id n place)
unfolding tables_on_literals digits number
zone-read = one-of-four IsZoneField
    (record { field = record { plain = refl; text = IsUtf8-from_is_utf8 [] refl }; short = omega arith; read = refl })
    (record { field = decimal-field 1 (omega arith); short = omega arith; read = refl })
    (record { field = decimal-field 2 (omega arith); short = omega arith; read = refl })
    (record { field = decimal-field 3 (omega arith); short = omega arith; read = refl })
    (record { field = decimal-field 4 (omega arith); short = omega arith; read = refl })

abbrev node-names : Record
node-names = codes "node_id" ∷ codes "zone_id" ∷ []

node-places : (place_of node-names column.NodeId ≡ Some 0) × (place_of node-names column.ZoneId ≡ Some 1)
unfolding tables_on_literals
node-places = (refl, refl)

abbrev node-fields : ℕ → Place → Record
node-fields n place = decimal (node_id n place) ∷ zone_field (zone_id n place) ∷ []

pub node-ids-of : (n : ℕ) (xs : List Place) → node_ids (map (node_row n) xs) ≡ map (node_id n) xs
node-ids-of n [] = refl
node-ids-of n (x ∷ xs) = ap (λ l. node_id n x ∷ l) (node-ids-of n xs)

module _ (n : ℕ) (h : n ≤ 60) where
  node-are : (place : Place) → IsInside n place → AreFields (node-fields n place)
  node-are place i = let small = small-id n place h i in (decimal-field (node_id n place) (omega arith), ((zone-read n place).field, tt))

  node-line-is : (place : Place) → IsInside n place → node_line n place ≡ row_text default_writer (node-fields n place)
  unfolding node_line
  node-line-is place i =
      rw (← line-is (decimal (node_id n place)) (zone_field (zone_id n place)) [] (node-are place i)) (simp append_assoc)

  node-accepted : (before : List Place) (place : Place) → IsInside n place
      → map (node_id n) before ≡ range_with_len 1 (length before) → node_id n place ≡ length before + 1
      → node_of (map (node_row n) before) (record { header = node-names; fields = node-fields n place; line = length (map (node_row n) before) + 2 })
      ≡ Ok (node_row n place)
  unfolding node_of field_at
  node-accepted before place i b m =
      let small = small-id n place h i in
      rw (node-places.0, node-places.1, identifier-read column.NodeId (node_id n place) (omega arith), node-ids-of n before, b, place-nowhere 1 (length before) (node_id n place) (omega arith), (zone-read n place).read) refl

  pub nodes-accepted : node_verdict (records (node_text n)) ≡ Ok (node_rows n)
  unfolding tables_on_literals node_text node_header is_blank fields_text
  nodes-accepted =
      table-accepted (node-fields n) (node_line n) (node_id n) (IsInside n) table.Node MOST_NODES (column.NodeId ∷ []) node_of node-names
      (λ place i. (refl, node-are place i, let small = small-id n place h i in omega arith)) node-line-is (λ _. refl)
      (node_row n) node-accepted (places n) (node_text n) (places-inside n) refl refl refl refl refl
      (place-ids n ∙ ap (range_with_len 1) (sym (place-count n)))

  node-line-short : (place : Place) → IsInside n place → length (node_line n place) ≤ 10
  unfolding node_line
  node-line-short place i =
      let small = small-id n place h i in
      let zone = (zone-read n place).short in
      let long = length-decimal-le 4 (node_id n place) (omega arith) (omega arith) (omega arith) in
      simp length-append (omega arith)

  pub nodes-short : length (node_text n) ≤ MOST_TABLE_BYTES
  unfolding node_text node_header
  nodes-short =
      let few = few-nodes n h in
      let count = place-count n in
      let lines = length-flat (node_line n) 10 (places n) (λ k d l. node-line-short (get_or (places n) k d) (places-inside n k d l)) in
      omega arith
