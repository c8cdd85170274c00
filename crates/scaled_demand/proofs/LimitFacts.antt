-- Vehicles of scaled demand: the sum with a limit, and the first scenario above it.
use Rattle.std.proofs.Common.{◌≡◌, ◌≢◌, ℕ, ◌+◌, ◌/◌, ◌<◌, ◌≤◌, ◌^◌, List, length, get_or, arith, refl, ap, sym, subst, ◌∙◌}
use Rattle.std.specs.Prelude.{Result, Err, Some, ◌↔◌, slice_get}
use Rattle.std.proofs.lemmas.List.{get_or-map, length-map}
use Rattle.std.proofs.lemmas.List.Elements.{All-get_or, All-map}
use Rattle.std.proofs.lemmas.Option.{slice_get-get_or, slice_get_within, get_or_from_slice_get}
use Rattle.fixed_units.specs.declared.quantity.TheConstants.{MOST_THOUSANDTHS}
use Rattle.dta_model.specs.Release.{HaveWindows, counted}
use Rattle.dta_model.specs.declared.trip.DemandCell.{DemandCell}
use Rattle.dta_model.specs.declared.trip.TheConstants.{MOST_TRIPS, VOLUME_OF_A_VEHICLE}
use Rattle.vehicle_release.specs.Limits.{IsFirstAbove, IsWithin}
use Rattle.vehicle_release.proofs.SumsFacts.{IsCounted, counted_more, vehicles_before-volume, volume_before-more}
use Rattle.scaled_demand.specs.Scales.{AreAllWithin, IsFirstTooMany, scaled, scaled_cell, scaled_volume}
use Rattle.scaled_demand.specs.declared.fault.SweepFault.{SweepFault}
use Rattle.scaled_demand.specs.declared.fault.SweepFault.TheVariants as fault

-- no scaled volume is above the greatest
scaled_most : (scale volume : ℕ) → scaled_volume scale volume ≤ MOST_THOUSANDTHS
scaled_most scale volume = grind arith

-- windows stay
pub scaled_windows : (steps scale : ℕ) (cells : List DemandCell) → HaveWindows steps cells → HaveWindows steps (scaled scale cells)
scaled_windows steps scale cells windows = record {
  some = All-map (λ cell. cell.from < cell.to) (scaled_cell scale) cells windows.some;
  within = All-map (λ cell. cell.to ≤ steps) (scaled_cell scale) cells windows.within;
}

counted_most : (cell : DemandCell) → cell.volume ≤ MOST_THOUSANDTHS → counted cell ≤ MOST_THOUSANDTHS
counted_most cell h = grind arith

module _ (scale : ℕ) (cells : List DemandCell) where
  -- a scaled row at its place
  at : (row : ℕ) (d : DemandCell) → row < length cells
      → get_or (scaled scale cells) row (scaled_cell scale d) ≡ scaled_cell scale (get_or cells row d)
  at row d h = get_or-map (scaled_cell scale) cells row d (scaled_cell scale d) h

  inside : (row : ℕ) → row < length cells → row < length (scaled scale cells)
  inside row h = rw (length-map cells (scaled_cell scale)) h

  -- the sum of one more row fits
  pub scaled_fits : (row volume : ℕ) (d : DemandCell) (it : DemandCell)
      → IsCounted (scaled scale cells) row volume → it ≡ scaled_cell scale d → volume + counted it < 2 ^ 64
  scaled_fits row volume d it so_far is =
      let most : it.volume ≤ MOST_THOUSANDTHS = rw is (scaled_most scale d.volume) in
      omega (arith, counted_most it most, so_far.low)

  pub scaled_more : (row volume more : ℕ) (d it : DemandCell)
      → IsCounted (scaled scale cells) row volume → row < length cells
      → it ≡ scaled_cell scale (get_or cells row d) → more ≡ volume + counted it
      → more / VOLUME_OF_A_VEHICLE ≤ MOST_TRIPS → IsCounted (scaled scale cells) (row + 1) more
  scaled_more row volume more d it so_far h is sum low =
      counted_more (scaled scale cells) row volume more (scaled_cell scale d) so_far (inside row h)
      (sum ∙ ap (λ (c : DemandCell). volume + counted c) (is ∙ sym (at row d h))) low

  pub scaled_above : (row volume more : ℕ) (d it : DemandCell)
      → IsCounted (scaled scale cells) row volume → row < length cells
      → it ≡ scaled_cell scale (get_or cells row d) → more ≡ volume + counted it
      → MOST_TRIPS < more / VOLUME_OF_A_VEHICLE
      → IsFirstAbove (scaled scale cells) (get_or cells row d).line (more / VOLUME_OF_A_VEHICLE)
  scaled_above row volume more d it so_far h is sum above = record {
    row = row;
    cell = scaled_cell scale (get_or cells row d);
    at = slice_get-get_or (scaled scale cells) row (scaled_cell scale d) (inside row h) ∙ ap Some (at row d h);
    on = refl;
    so_many = vehicles_before-volume (scaled scale cells) (row + 1)
        ∙ ap (λ n. n / VOLUME_OF_A_VEHICLE)
        (volume_before-more (scaled scale cells) row (scaled_cell scale d) (inside row h)
        ∙ ap (λ n. n + counted (get_or (scaled scale cells) row (scaled_cell scale d))) (sym so_far.is)
        ∙ sym (sum ∙ ap (λ (c : DemandCell). volume + counted c) (is ∙ sym (at row d h))));
    above = above;
    first = so_far.few;
  }

  pub scaled_all : (row volume : ℕ) → IsCounted (scaled scale cells) row volume → length cells ≤ row
      → IsWithin (scaled scale cells)
  scaled_all row volume so_far past = λ before h.
      let many = length-map cells (scaled_cell scale) in
      so_far.few before (omega (arith, h, past, many))

-- ---- the first scenario above the limit

pub none-above : (cells : List DemandCell) (line total : ℕ) → IsWithin cells → IsFirstAbove cells line total → ⊥
none-above cells line total within first =
    omega (arith, within first.row (slice_get_within cells first.row first.cell first.at), first.so_many, first.above)

module _ (cells : List DemandCell) (scales : List ℕ) where
  abbrev pub WithinAt : ℕ → Type 0
  WithinAt scale = IsWithin (scaled scale cells)

  -- the scenarios before a place are within the limit
  abbrev pub AreBefore : ℕ → Type 0
  AreBefore place = (earlier other : ℕ) → earlier < place → slice_get scales earlier ≡ Some other → WithinAt other

  -- all of them are
  pub all-before : (place : ℕ) → length scales ≤ place → AreBefore place → AreAllWithin cells scales
  all-before place past so_far = λ k d h.
      so_far k (get_or scales k d) (omega (arith, h, past)) (slice_get-get_or scales k d h)

  -- and then none has too many
  pub none-too-many : (scenario line total : ℕ) → AreAllWithin cells scales → IsFirstTooMany cells scales scenario line total → ⊥
  none-too-many scenario line total all first =
      none-above (scaled first.scale cells) line total
      (subst WithinAt (get_or_from_slice_get scales scenario first.scale 0 first.at)
      (All-get_or WithinAt scales scenario 0 (slice_get_within scales scenario first.scale first.at) all)) first.above

  pub told-within : {T : Type 0} (r : Result T SweepFault) → AreAllWithin cells scales
      → ((scenario line total : ℕ) → r ≢ Err (fault.TooMany scenario line total)) → (scenario line total : ℕ)
      → (r ≡ Err (fault.TooMany scenario line total)) ↔ IsFirstTooMany cells scales scenario line total
  told-within r all other scenario line total =
      (λ e. absurd (other scenario line total e), λ first. absurd (none-too-many scenario line total all first))

-- a fault of one call is that of another
err-again : {T U : Type 0} (e f : SweepFault) → ◌≡◌ {A = Result T SweepFault} (Err e) (Err f) → ◌≡◌ {A = Result U SweepFault} (Err e) (Err f)
err-again e f h = let same : e ≡ f = cc in ap (λ (x : SweepFault). Err x) same

pub told-again : {T U : Type 0} (cells : List DemandCell) (scales : List ℕ) (e : SweepFault)
    → ((scenario line total : ℕ) → ◌≡◌ {A = Result T SweepFault} (Err e) (Err (fault.TooMany scenario line total)) ↔ IsFirstTooMany cells scales scenario line total)
    → (scenario line total : ℕ) → ◌≡◌ {A = Result U SweepFault} (Err e) (Err (fault.TooMany scenario line total)) ↔ IsFirstTooMany cells scales scenario line total
told-again cells scales e told scenario line total = (
  λ h. (told scenario line total).0 (err-again e (fault.TooMany scenario line total) h),
  λ first. err-again e (fault.TooMany scenario line total) ((told scenario line total).1 first),
)

pub ruleset counting = (scaled_fits, scaled_all)
