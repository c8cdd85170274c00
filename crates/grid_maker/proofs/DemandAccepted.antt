-- The demand table of a grid, as its reader defines what it says.
use Rattle.std.proofs.Common.{◌≡◌, ℕ, ◌+◌, ◌*◌, ◌<◌, ◌≤◌, Bool, true, false, List, [], ◌∷◌, ◌++◌, length, get_or, append_assoc, map, flat_map, All, Ok, None, Some, codes, decimal, refl, ap, arith, nat_eq, length-append, if◌then◌else◌}
use Rattle.std.specs.List.{range_with_len}
use Rattle.std.proofs.lemmas.List.{length-map}
use Rattle.std.proofs.lemmas.List.Elements.{All-nil, All-cons}
use Rattle.std.proofs.lemmas.Fmt.{length-decimal-le}
use Rattle.csv.specs.Records.{field_at}
use Rattle.csv.specs.Writing.{default_writer, fields_text, is_blank, row_text}
use Rattle.desk_io.specs.declared.transfers.TheConstants.{MOST_TABLE_BYTES}
use Rattle.desk_io.specs.declared.desk.Table.TheVariants as table
use Rattle.row_reader.specs.Columns.{place_of}
use Rattle.row_reader.specs.OnLiterals.{tables_on_literals}
use Rattle.row_reader.specs.Records.{Record, records}
use Rattle.row_reader.specs.declared.faults.Column.TheVariants as column
use Rattle.dta_model.specs.Release.{vehicles_before}
use Rattle.demand.specs.DemandRows.{demand_cell_of, demand_columns, demand_verdict, step_or}
use Rattle.demand.specs.declared.demand_rows.TheConstants.{MOST_DEMAND_CELLS}
use Rattle.grid_maker.specs.Grid.{demand_header, demand_line, demand_text, zones}
use Rattle.grid_maker.specs.GridsAreAccepted.{demand_cell, demand_cells, numbered, zone_pairs, zones_from}
use Rattle.grid_maker.proofs.LinesFacts.{AreFields, line-is, numbered-all, table-accepted}
use Rattle.grid_maker.proofs.PlacesFacts.{all-flat, below, length-flat}
use Rattle.grid_maker.proofs.WrittenFacts.{decimal-field, identifier-read, quantity-read}

-- two zones
abbrev AreZones : ℕ × ℕ → Type 0
AreZones pair = (pair.0 < 5) × (pair.1 < 5)

-- at most 12 pairs of zones
abbrev IsPair : ℕ × (ℕ × ℕ) → Type 0
IsPair x = (x.0 < 13) × AreZones x.1

abbrev pair-names : Record
pair-names = codes "o_zone_id" ∷ codes "d_zone_id" ∷ codes "volume" ∷ []

pair-places : (place_of pair-names column.OZoneId ≡ Some 0) × (place_of pair-names column.DZoneId ≡ Some 1) × (place_of pair-names column.Volume ≡ Some 2)
    × (place_of pair-names column.FromStep ≡ None) × (place_of pair-names column.ToStep ≡ None)
unfolding tables_on_literals
pair-places = (refl, refl, refl, refl, refl)

abbrev pair-fields : ℕ → ℕ × (ℕ × ℕ) → Record
pair-fields n x = decimal x.1.0 ∷ decimal x.1.1 ∷ decimal (25 * n) ∷ []

pairs-are : All IsPair (numbered zone_pairs)
pairs-are = numbered-all AreZones 1 13 zone_pairs (omega arith)
    (all-flat AreZones (λ o. o < 5) zones_from
    (λ o small. all-flat AreZones (λ d. d < 5) (λ d. if nat_eq o d then [] else (o, d) ∷ [])
    (λ d less. one o d small less (nat_eq o d)) zones (below 1 4 5 (omega arith)))
    zones (below 1 4 5 (omega arith)))
  where
    one : (o d : ℕ) → o < 5 → d < 5 → (b : Bool) → All AreZones (if b then [] else (o, d) ∷ [])
    one o d small less true = All-nil AreZones
    one o d small less false = All-cons AreZones (o, d) [] (small, less) (All-nil AreZones)

-- the lines of all pairs, one after the other
pairs-flat : (line : ℕ → ℕ → List ℕ)
    → flat_map (λ o. flat_map (λ d. if nat_eq o d then [] else line o d) zones) zones ≡ flat_map (λ x. line x.1.0 x.1.1) (numbered zone_pairs)
pairs-flat line = simp (append_assoc)

module _ (n : ℕ) (h : n ≤ 60) where
  pair-line : ℕ × (ℕ × ℕ) → List ℕ
  pair-line x = decimal x.1.0 ++ codes "," ++ decimal x.1.1 ++ codes "," ++ decimal (25 * n) ++ codes "\n"

  pair-are : (x : ℕ × (ℕ × ℕ)) → IsPair x → AreFields (pair-fields n x)
  pair-are x f =
      let o = f.1.0 in
      let d = f.1.1 in
      (decimal-field x.1.0 (omega arith), (decimal-field x.1.1 (omega arith), (decimal-field (25 * n) (omega arith), tt)))

  pair-line-is : (x : ℕ × (ℕ × ℕ)) → IsPair x → pair-line x ≡ row_text default_writer (pair-fields n x)
  unfolding pair-line
  pair-line-is x f = rw (← line-is (decimal x.1.0) (decimal x.1.1) (decimal (25 * n) ∷ []) (pair-are x f)) (simp append_assoc)

  pair-accepted : (period : ℕ) (before : List (ℕ × (ℕ × ℕ))) (x : ℕ × (ℕ × ℕ)) → IsPair x
      → map (λ x. x.0) before ≡ range_with_len 1 (length before) → x.0 ≡ length before + 1
      → demand_cell_of period (map (demand_cell period n) before) (record { header = pair-names; fields = pair-fields n x; line = length (map (demand_cell period n) before) + 2 })
      ≡ Ok (demand_cell period n x)
  unfolding demand_cell_of step_or field_at
  pair-accepted period before x f b m =
      let o = f.1.0 in
      let d = f.1.1 in
      let long = length-map before (demand_cell period n) in
      let line : length (map (demand_cell period n) before) + 2 ≡ x.0 + 1 = omega arith in
      rw (pair-places.0, pair-places.1, pair-places.2, pair-places.3, pair-places.4, identifier-read column.OZoneId x.1.0 (omega arith), identifier-read column.DZoneId x.1.1 (omega arith), quantity-read column.Volume (25 * n) (omega arith), line) refl

  demand-text-is : demand_text n ≡ demand_header ++ flat_map pair-line (numbered zone_pairs)
  unfolding demand_text demand_line pair-line
  demand-text-is = ap (λ t. demand_header ++ t) (pairs-flat (λ o d. decimal o ++ codes "," ++ decimal d ++ codes "," ++ decimal (25 * n) ++ codes "\n"))

  pub demand-accepted : (period : ℕ) → 1 ≤ period → demand_verdict period (records (demand_text n)) ≡ Ok (demand_cells period n)
  unfolding tables_on_literals demand_text demand_header is_blank fields_text
  demand-accepted period lasts =
      table-accepted (pair-fields n) pair-line (λ x. x.0) IsPair table.Demand MOST_DEMAND_CELLS demand_columns (demand_cell_of period) pair-names
      (λ x f. (refl, pair-are x f, let number = f.0 in omega arith)) pair-line-is (λ _. refl)
      (demand_cell period n) (pair-accepted period) (numbered zone_pairs) (demand_text n) pairs-are refl refl demand-text-is refl refl refl

  pair-line-short : (x : ℕ × (ℕ × ℕ)) → IsPair x → length (pair-line x) ≤ 10
  unfolding pair-line
  pair-line-short x f =
      let o = f.1.0 in
      let d = f.1.1 in
      let a = length-decimal-le 1 x.1.0 (omega arith) (omega arith) (omega arith) in
      let b = length-decimal-le 1 x.1.1 (omega arith) (omega arith) (omega arith) in
      let c = length-decimal-le 4 (25 * n) (omega arith) (omega arith) (omega arith) in
      simp length-append (omega arith)

  pub demand-short : length (demand_text n) ≤ MOST_TABLE_BYTES
  unfolding demand_header
  demand-short =
      let lines = length-flat pair-line 10 (numbered zone_pairs) (λ k d l. pair-line-short (get_or (numbered zone_pairs) k d) (pairs-are k d l)) in
      rw demand-text-is (omega arith)

  -- 300 n vehicles depart
  pub vehicles-are : (period : ℕ) → vehicles_before (demand_cells period n) (length zone_pairs) ≡ 300 * n
  unfolding vehicles_before
  vehicles-are period = omega arith
