-- Trips as they are made, row by row.
use Rattle.std.proofs.Common.{◌≡◌, ℕ, ◌+◌, ◌-◌, ◌*◌, ◌/◌, ◌<◌, ◌≤◌, All, List, [], ◌∷◌, ◌++◌, length, get_or, map, arith, refl, ap, sym, ◌∙◌, append_assoc, append-nil, ◌^◌, subst}
use Rattle.std.specs.Prelude.{slice_get, Some}
use Rattle.std.specs.List.{flat_map}
use Rattle.std.proofs.lemmas.List.{map-id, map-append}
use Rattle.std.proofs.lemmas.List.Concat.{flat_map-append}
use Rattle.std.proofs.lemmas.List.Elements.{All-map, All-weaker}
use Rattle.std.proofs.lemmas.List.FromFn.{map-range_with_len_more}
use Rattle.std.proofs.lemmas.Option.{slice_get-get_or}
use Rattle.std.proofs.lemmas.Simd.{map-map}
use Rattle.net_core.proofs.Numbers.{numbers_more}
use Rattle.net_core.specs.Network.{numbers_below}
use Rattle.dta_model.proofs.Releases.{IsOfTable, all_of_table, departs_is, early_of, last_windows}
use Rattle.dta_model.specs.Release.{counted, departure, departure_by, last_end, released, released_by, trip_by, vehicle_of_row, vehicles_before, vehicles_of_row}
use Rattle.dta_model.specs.declared.trip.DemandCell.{DemandCell}
use Rattle.dta_model.specs.declared.trip.TheConstants.{MOST_TRIPS, VOLUME_OF_A_VEHICLE}
use Rattle.dta_model.specs.declared.trip.Trip.{Trip}
use Rattle.vehicle_release.specs.Unnumbered.{trip_at, unnumbered}
use Rattle.vehicle_release.proofs.SumsFacts.{volume_before, vehicles_before-volume, volume_before-le, volume_before-more}

-- ---- a row
-- one more vehicle of a row
pub row_more : (old now new : List Trip) (vehicles : ℕ) (cell : DemandCell) (place step : ℕ)
    → now ≡ old ++ map (trip_at vehicles cell) (numbers_below place)
    → step ≡ departure cell.from cell.to vehicles place
    → new ≡ now ++ record { number = 0; origin = cell.origin; destination = cell.destination; departure = step } ∷ []
    → new ≡ old ++ map (trip_at vehicles cell) (numbers_below (place + 1))
row_more old now new vehicles cell place step so_far at is =
    let trip = trip_at vehicles cell in
    is ∙ (λ i. so_far i ++ record (trip place) { departure = at i } ∷ [])
    ∙ append_assoc old (map trip (numbers_below place)) (trip place ∷ [])
    ∙ ap (λ l. old ++ l) (sym (map-range_with_len_more trip 0 place place (omega arith)))

-- ---- all rows
-- what a row brings, where a sum of volumes grows from one to another
abbrev pub brought : ℕ → ℕ → ℕ
brought volume more = more / VOLUME_OF_A_VEHICLE - volume / VOLUME_OF_A_VEHICLE

module _ (cells : List DemandCell) where
  brought-row : (row volume more : ℕ) (d : DemandCell) → row < length cells
      → volume ≡ volume_before cells row → more ≡ volume + counted (get_or cells row d)
      → brought volume more ≡ vehicles_of_row cells row
  unfolding vehicles_of_row
  brought-row row volume more d inside is sum_is =
      let grown = ap (λ n. n + counted (get_or cells row d)) is in
      let after : more ≡ volume_before cells (row + 1) =
      sum_is ∙ grown ∙ sym (volume_before-more cells row d inside) in
      (λ i. brought (is i) (after i))
      ∙ (λ i. sym (vehicles_before-volume cells (row + 1)) i - sym (vehicles_before-volume cells row) i)

  -- sums of volumes are low where all vehicles are few
  made-low : (row volume : ℕ) (d : DemandCell) → row < length cells → volume ≡ volume_before cells row
      → vehicles_before cells (length cells) ≤ MOST_TRIPS
      → (volume + counted (get_or cells row d)) / VOLUME_OF_A_VEHICLE ≤ MOST_TRIPS
  made-low row volume d inside is few =
      omega (arith, volume_before-le cells row d inside, vehicles_before-volume cells (length cells))

  pub made_fits : (row volume total : ℕ) (d : DemandCell) → row < length cells
      → volume ≡ volume_before cells row → total ≡ vehicles_before cells (length cells)
      → total ≤ MOST_TRIPS
      → volume + counted (get_or cells row d) < 2 ^ 64
  made_fits row volume total d inside is total_is few =
      omega (arith, made-low row volume d inside is (omega (arith, total_is)))

  pub made_few : (row volume more total : ℕ) (d : DemandCell) → row < length cells
      → volume ≡ volume_before cells row → total ≡ vehicles_before cells (length cells)
      → total ≤ MOST_TRIPS
      → more ≡ volume + counted (get_or cells row d) → brought volume more ≤ MOST_TRIPS
  made_few row volume more total d inside is total_is few sum_is =
      let low = made-low row volume d inside is (omega (arith, total_is)) in
      omega (arith, low, ap (λ n. n / VOLUME_OF_A_VEHICLE) sum_is)

  -- the trips of the first rows
  abbrev pub made : ℕ → List Trip
  made rows = map (unnumbered cells) (flat_map (released_by cells) (numbers_below rows))

  -- the trips of one row
  abbrev pub made_by : ℕ → List Trip
  made_by row = map (unnumbered cells) (released_by cells row)

  -- a row that is at its place
  pub made_by-row : (row : ℕ) (cell : DemandCell) → slice_get cells row ≡ Some cell
      → made_by row ≡ map (trip_at (vehicles_of_row cells row) cell) (numbers_below (vehicles_of_row cells row))
  unfolding released_by
  made_by-row row cell at =
      let vehicles = vehicles_of_row cells row in
      map-map (unnumbered cells) (vehicle_of_row cells row) (numbers_below vehicles)
      ∙ ap (λ o. map (λ j. trip_by o 0 (departure_by o vehicles j)) (numbers_below vehicles)) at

  pub made-more : (row : ℕ) → made (row + 1) ≡ made row ++ made_by row
  made-more row =
      let by = released_by cells in
      ap (λ l. map (unnumbered cells) (flat_map by l)) (numbers_more row)
      ∙ ap (map (unnumbered cells)) (flat_map-append by (numbers_below row) (row ∷ []))
      ∙ map-append (unnumbered cells) (flat_map by (numbers_below row)) (by row ++ [])
      ∙ ap (λ l. made row ++ map (unnumbered cells) l) (append-nil (by row))

  -- the rows up to a place are made: their volume and their trips
  pub record IsMade (rows : ℕ) (trips : List Trip) (volume : ℕ) : Type 0 where
    pub is : volume ≡ volume_before cells rows
    pub made_is : trips ≡ made rows

  pub made_none : (trips : List Trip) → trips ≡ [] → IsMade 0 trips 0
  made_none trips none = record { is = refl; made_is = none }

  pub made_more : (row volume more : ℕ) (now new : List Trip) (d : DemandCell) → row < length cells
      → IsMade row now volume → more ≡ volume + counted (get_or cells row d)
      → new ≡ now ++ map (trip_at (brought volume more) (get_or cells row d)) (numbers_below (brought volume more))
      → IsMade (row + 1) new more
  made_more row volume more now new d inside so_far sum_is new_is =
      let cell = get_or cells row d in
      let many = brought-row row volume more d inside so_far.is sum_is in
      let row_is = made_by-row row cell (slice_get-get_or cells row d inside) in
      let grown = ap (λ n. n + counted cell) so_far.is in
      record {
        is = sum_is ∙ grown ∙ sym (volume_before-more cells row d inside);
        made_is =
            new_is
            ∙ (λ i. so_far.made_is i ++ map (trip_at (many i) cell) (numbers_below (many i)))
            ∙ ap (λ l. made row ++ l) (sym row_is)
            ∙ sym (made-more row);
      }

  made-released : made (length cells) ≡ map (unnumbered cells) (released cells)
  unfolding released
  made-released = refl

  pub made_all : (rows volume : ℕ) (trips : List Trip) → IsMade rows trips volume
      → length cells ≤ rows → rows ≤ length cells
      → trips ≡ map (unnumbered cells) (released cells)
  made_all rows volume trips so_far past within =
      let all : rows ≡ length cells = omega arith in
      so_far.made_is ∙ ap made all ∙ made-released

  -- ---- departures
  pub released_early : (trips : List Trip) → All (λ cell. cell.from < cell.to) cells
      → trips ≡ map (unnumbered cells) (released cells)
      → All (λ trip. trip.departure < last_end cells) trips
  released_early trips windows is =
      let last = last_windows cells windows in
      subst (All (λ trip. trip.departure < last_end cells)) (sym is)
      (All-map (λ trip. trip.departure < last_end cells) (unnumbered cells) (released cells)
      (All-weaker (IsOfTable cells) (λ r. (unnumbered cells r).departure < last_end cells)
      (λ r x. rw (departs_is (slice_get cells r.row) 0 r.departs) (early_of cells (last_end cells) last.within r x)) (released cells) (all_of_table cells windows)))

pub ruleset making = (made_none, made_fits)
