-- The link table of a grid, as its reader defines what it says.
use Rattle.std.proofs.Common.{◌≡◌, ℕ, ◌+◌, ◌*◌, ◌<◌, ◌≤◌, ◌⊎◌, inl, inr, false, List, [], ◌∷◌, length, get_or, append_assoc, map, All, None, Some, Ok, codes, decimal, refl, ap, arith, le-leb, add-mul, length-append}
use Rattle.std.specs.Int.{div_ceil}
use Rattle.std.specs.List.{range_with_len}
use Rattle.std.proofs.lemmas.Bool.{cases_lt}
use Rattle.std.proofs.lemmas.Grind.{div_ceil_times}
use Rattle.std.proofs.lemmas.Str.{IsUtf8-from_is_utf8}
use Rattle.std.proofs.lemmas.Fmt.{length-decimal-le}
use Rattle.csv.specs.Records.{field_at}
use Rattle.csv.specs.Writing.{default_writer, fields_text, is_blank, row_text}
use Rattle.desk_io.specs.declared.transfers.TheConstants.{MOST_TABLE_BYTES}
use Rattle.desk_io.specs.declared.desk.Table.TheVariants as table
use Rattle.fixed_units.specs.Quantity.{number}
use Rattle.fixed_units.specs.Units.{free_steps_of, length_factor, length_of, speed_factor, speed_of}
use Rattle.fixed_units.specs.declared.link.TheConstants.{MOST_FREE_STEPS}
use Rattle.fixed_units.specs.declared.measure.LengthUnit.TheVariants.{Metre}
use Rattle.fixed_units.specs.declared.measure.SpeedUnit.{SpeedUnit}
use Rattle.fixed_units.specs.declared.measure.SpeedUnit.TheVariants.{Kmh, Mph}
use Rattle.fixed_units.specs.declared.units.Units.{Units}
use Rattle.row_reader.specs.Fields.{optional_quantity, quantity_or}
use Rattle.row_reader.specs.Columns.{place_of}
use Rattle.row_reader.specs.OnLiterals.{tables_on_literals}
use Rattle.row_reader.specs.Records.{Record, records}
use Rattle.row_reader.specs.Trimmed.{trimmed}
use Rattle.row_reader.specs.declared.faults.Column.{Column}
use Rattle.row_reader.specs.declared.faults.Column.TheVariants as column
use Rattle.net_core.specs.Rows.{link_ids}
use Rattle.net_core.specs.declared.rows.TheConstants.{MOST_LINKS}
use Rattle.gmns_tables.specs.Links.{capacity_of, free_speed_of, is_undirected, lanes_of, link_columns, link_of, link_verdict}
use Rattle.gmns_tables.specs.Names.{known_node}
use Rattle.gmns_tables.specs.RowsWithWindows.{rows_of}
use Rattle.gmns_tables.specs.Windows.{windows_by_step}
use Rattle.row_reader.proofs.Kept.{Before}
use Rattle.grid_maker.specs.declared.links.GridLink.{GridLink}
use Rattle.grid_maker.specs.declared.places.Place.{Place}
use Rattle.grid_maker.specs.Grid.{link_header, link_line, link_lines, link_text}
use Rattle.grid_maker.specs.GridsAreAccepted.{link_row, link_rows, node_number, node_rows, numbered, steps_in}
use Rattle.grid_maker.specs.Places.{node_id, places}
use Rattle.grid_maker.proofs.LinesFacts.{AreFields, IsField, line-is, numbered-all, numbered-count, numbers-are, place-nowhere, place-there, table-accepted}
use Rattle.grid_maker.proofs.PlacesFacts.{IsGridLink, IsInside, inside-below, few-links, links-inside, place-ids, length-flat}
use Rattle.grid_maker.proofs.WrittenFacts.{decimal-field, identifier-read, quantity-read}
use Rattle.grid_maker.proofs.NodesAccepted.{small-id, node-ids-of}
use Rattle.grid_maker.specs.Links as grid

-- the length of a link in metres
lengths : (link : GridLink) → grid.length_of link ≤ 280
lengths link = omega arith

-- at most 14160 links, each between two places of the grid
abbrev IsFit : ℕ → ℕ × GridLink → Type 0
IsFit n x = (x.0 < 14161) × IsGridLink n x.1

abbrev link-names : Record
link-names = codes "link_id" ∷ codes "from_node_id" ∷ codes "to_node_id" ∷ codes "length" ∷ codes "lanes" ∷ codes "free_speed" ∷ codes "capacity" ∷ []

link-places : (place_of link-names column.LinkId ≡ Some 0) × (place_of link-names column.FromNodeId ≡ Some 1) × (place_of link-names column.ToNodeId ≡ Some 2)
    × (place_of link-names column.Directed ≡ None) × (place_of link-names column.Length ≡ Some 3) × (place_of link-names column.Lanes ≡ Some 4)
    × (place_of link-names column.FreeSpeed ≡ Some 5) × (place_of link-names column.Capacity ≡ Some 6) × (place_of link-names column.CapacityByStep ≡ None)
unfolding tables_on_literals
link-places = (refl, refl, refl, refl, refl, refl, refl, refl, refl)

abbrev link-fields : ℕ → ℕ × GridLink → Record
link-fields n x =
    decimal x.0 ∷ decimal (node_id n x.1.from) ∷ decimal (node_id n x.1.to) ∷ decimal (grid.length_of x.1) ∷ codes "1" ∷ codes "40" ∷ codes "900" ∷ []

lanes-read : lanes_of (trimmed (codes "1")) ≡ Ok 1000
unfolding tables_on_literals quantity_or number
lanes-read = refl

speed-read : (unit : SpeedUnit) → free_speed_of unit (trimmed (codes "40")) ≡ Ok (speed_of 40000 unit)
unfolding tables_on_literals free_speed_of optional_quantity number
speed-read unit = refl

capacity-read : capacity_of (trimmed (codes "900")) ≡ Ok 900000
unfolding tables_on_literals quantity_or number
capacity-read = refl

is-directed : is_undirected [] ≡ false
unfolding is_undirected
is-directed = refl

no-windows : (kind : Before windows_by_step) → windows_by_step kind [] ≡ Ok []
unfolding windows_by_step
no-windows kind = refl

-- a quotient that is rounded up
rounded : (a b k : ℕ) → 0 < b → a ≤ k * b → div_ceil a b ≤ k
rounded a b k some h = by (cases_lt k (div_ceil a b))
  where
    product : (x y : ℕ) → x ≤ y → x * b ≤ y * b
    product x y l = grind arith

    by : (k < div_ceil a b) ⊎ (div_ceil a b ≤ k) → div_ceil a b ≤ k
    by (inr l) = l
    by (inl l) =
        let c = product (k + 1) (div_ceil a b) (omega (arith, l)) in
        absurd (omega (arith, c, h, (div_ceil_times a b some).1, add-mul k 1 b))

-- a link of up to 280 metres takes few steps, as long as each has a second
few-steps : (long : ℕ) (speed : SpeedUnit) (delta : ℕ) → long ≤ 280 → 1 ≤ delta
    → (0 < 40000 * speed_factor speed * delta) × (3600 * (1000 * long * length_factor Metre) ≤ 10000 * (40000 * speed_factor speed * delta))
few-steps long Kmh delta l some = (omega arith, omega arith)
few-steps long Mph delta l some = (omega arith, omega arith)

steps-read : (units : Units) (link : GridLink) → 1 ≤ units.delta → units.length ≡ Metre
    → free_steps_of (length_of (1000 * grid.length_of link) units.length) (speed_of 40000 units.speed) units.delta ≡ Ok (steps_in units link)
steps-read units link some metres =
    let few = few-steps (grid.length_of link) units.speed units.delta (lengths link) some in
    let steps = rounded (3600 * (1000 * grid.length_of link * length_factor Metre)) (40000 * speed_factor units.speed * units.delta) 10000 few.0 few.1 in
    let most : steps_in units link ≤ MOST_FREE_STEPS = rw metres (omega arith) in
    rw (le-leb (steps_in units link) MOST_FREE_STEPS most) refl

-- a place's node is known by its identifier
node-known : (n : ℕ) → n ≤ 60 → (what : Column) (place : Place) → IsInside n place
    → known_node (node_rows n) what (trimmed (decimal (node_id n place))) ≡ Ok (node_number n place)
unfolding known_node
node-known n h what place i =
    let small = small-id n place h i in
    let number : 1 + (place.row * n + place.column) ≡ node_id n place = omega arith in
    let there = rw number at (place-there 1 (n * n) (place.row * n + place.column) (inside-below n place i)) in
    rw (identifier-read what (node_id n place) (omega arith), node-ids-of n (places n), place-ids n, there) refl

link-ids-of : (n : ℕ) (units : Units) (xs : List (ℕ × GridLink)) → link_ids (rows_of (map (link_row n units) xs)) ≡ map (λ x. x.0) xs
link-ids-of n units [] = refl
link-ids-of n units (x ∷ xs) = ap (λ l. x.0 ∷ l) (link-ids-of n units xs)

-- the fields that all lines have
last-fields : AreFields (codes "1" ∷ codes "40" ∷ codes "900" ∷ [])
unfolding tables_on_literals
last-fields =
    let one : IsField (codes "1") = record { plain = refl; text = IsUtf8-from_is_utf8 (codes "1") refl } in
    let forty : IsField (codes "40") = record { plain = refl; text = IsUtf8-from_is_utf8 (codes "40") refl } in
    let nine-hundred : IsField (codes "900") = record { plain = refl; text = IsUtf8-from_is_utf8 (codes "900") refl } in
    (one, (forty, (nine-hundred, tt)))

module _ (n : ℕ) (h : n ≤ 60) where
  -- the numbers of a line are small
  link-small : (x : ℕ × GridLink) → IsFit n x
      → (x.0 < 14161) × (node_id n x.1.from ≤ 3600) × (node_id n x.1.to ≤ 3600) × (grid.length_of x.1 ≤ 280)
  link-small x f = (f.0, small-id n x.1.from h f.1.from, small-id n x.1.to h f.1.to, lengths x.1)

  link-are : (x : ℕ × GridLink) → IsFit n x → AreFields (link-fields n x)
  link-are x f =
      let small = link-small x f in
      let number = decimal-field x.0 (omega arith) in
      let from = decimal-field (node_id n x.1.from) (omega arith) in
      let to = decimal-field (node_id n x.1.to) (omega arith) in
      let long = decimal-field (grid.length_of x.1) (omega arith) in
      (number, (from, (to, (long, last-fields))))

  link-line-is : (x : ℕ × GridLink) → IsFit n x → link_line n x.0 x.1 ≡ row_text default_writer (link-fields n x)
  unfolding link_line
  link-line-is x f =
      rw (← line-is (decimal x.0) (decimal (node_id n x.1.from)) (decimal (node_id n x.1.to) ∷ decimal (grid.length_of x.1) ∷ codes "1" ∷ codes "40" ∷ codes "900" ∷ []) (link-are x f))
      (simp append_assoc)

  link-line-short : (x : ℕ × GridLink) → IsFit n x → length (link_line n x.0 x.1) ≤ 40
  unfolding link_line
  link-line-short x f =
      let small = link-small x f in
      let number = length-decimal-le 5 x.0 (omega arith) (omega arith) (omega arith) in
      let from = length-decimal-le 4 (node_id n x.1.from) (omega arith) (omega arith) (omega arith) in
      let to = length-decimal-le 4 (node_id n x.1.to) (omega arith) (omega arith) (omega arith) in
      let long = length-decimal-le 3 (grid.length_of x.1) (omega arith) (omega arith) (omega arith) in
      simp length-append (omega arith)

  links-fit : All (IsFit n) (numbered (grid.links n))
  links-fit = numbered-all (IsGridLink n) 1 14161 (grid.links n) (let few = few-links n h in omega arith) (links-inside n)

  pub links-short : length (link_text n) ≤ MOST_TABLE_BYTES
  unfolding link_text link_lines link_header
  links-short =
      let few = few-links n h in
      let count = numbered-count 1 (grid.links n) in
      let lines = length-flat (λ x. link_line n x.0 x.1) 40 (numbered (grid.links n)) (λ k d l. link-line-short (get_or (numbered (grid.links n)) k d) (links-fit k d l)) in
      omega arith

module _ (n : ℕ) (h : n ≤ 60) (units : Units) (some : 1 ≤ units.delta) (metres : units.length ≡ Metre) where
  link-accepted : (before : List (ℕ × GridLink)) (x : ℕ × GridLink) → IsFit n x
      → map (λ x. x.0) before ≡ range_with_len 1 (length before) → x.0 ≡ length before + 1
      → link_of (node_rows n) units (map (link_row n units) before)
      (record { header = link-names; fields = link-fields n x; line = length (map (link_row n units) before) + 2 }) ≡ Ok (link_row n units x)
  unfolding link_of field_at
  link-accepted before x f b m =
      let long = lengths x.1 in
      let number = f.0 in
      rw (
        link-places.0,
        link-places.1,
        link-places.2,
        link-places.3,
        link-places.4,
        link-places.5,
        link-places.6,
        link-places.7,
        identifier-read column.LinkId x.0 (omega arith),
        link-ids-of n units before,
        b,
        place-nowhere 1 (length before) x.0 (omega arith),
        node-known n h column.FromNodeId x.1.from f.1.from,
        node-known n h column.ToNodeId x.1.to f.1.to,
        is-directed,
        quantity-read column.Length (grid.length_of x.1) (omega arith),
        lanes-read,
        speed-read units.speed,
        steps-read units x.1 some metres,
        capacity-read,
        link-places.8,
        no-windows,
      ) refl

  pub links-accepted : link_verdict (node_rows n) units (records (link_text n)) ≡ Ok (link_rows n units)
  unfolding tables_on_literals link_text link_lines link_header is_blank fields_text
  links-accepted =
      table-accepted (link-fields n) (λ x. link_line n x.0 x.1) (λ x. x.0) (IsFit n) table.Link MOST_LINKS link_columns (link_of (node_rows n) units) link-names
      (λ x f. (refl, link-are n h x f, let number = f.0 in omega arith)) (link-line-is n h) (λ _. refl)
      (link_row n units) link-accepted (numbered (grid.links n)) (link_text n) (links-fit n h) refl refl refl refl refl (numbers-are 1 (grid.links n))
