-- The running sum of volumes, and the vehicles that it makes.
use Rattle.std.proofs.Common.{◌≡◌, ℕ, ◌+◌, ◌/◌, ◌<◌, ◌≤◌, List, length, get_or, take, All, arith, refl, ap, sym, ◌∙◌, ◌^◌, below_more}
use Rattle.std.specs.Prelude.{sum_by}
use Rattle.std.proofs.Math.Seq.{take-length}
use Rattle.std.proofs.lemmas.Option.{slice_get-get_or}
use Rattle.std.proofs.lemmas.Grind.{common_steps}
use Rattle.std.proofs.lemmas.List.Elements.{All-get_or}
use Rattle.std.proofs.lemmas.List.Sums.{sum_by_more, sum_by_more_le}
use Rattle.fixed_units.specs.declared.quantity.TheConstants.{MOST_THOUSANDTHS}
use Rattle.dta_model.specs.Release.{counted, vehicles_before}
use Rattle.dta_model.specs.declared.trip.DemandCell.{DemandCell}
use Rattle.dta_model.specs.declared.trip.TheConstants.{MOST_TRIPS, VOLUME_OF_A_VEHICLE}
use Rattle.vehicle_release.specs.declared.fault.ReleaseFault.TheVariants.{TooMany}
use Rattle.vehicle_release.specs.Limits.{TellsFirstAbove}

-- the volume of the first rows together
abbrev pub volume_before : List DemandCell → ℕ → ℕ
volume_before cells row = sum_by counted (take row cells)

pub vehicles_before-volume : (cells : List DemandCell) (row : ℕ)
    → vehicles_before cells row ≡ volume_before cells row / VOLUME_OF_A_VEHICLE
unfolding vehicles_before
vehicles_before-volume cells row = refl

-- one more row
pub volume_before-more : (cells : List DemandCell) (row : ℕ) (d : DemandCell) → row < length cells
    → volume_before cells (row + 1) ≡ volume_before cells row + counted (get_or cells row d)
volume_before-more cells row d inside = sum_by_more counted cells row d inside

-- rows with one more have no more volume than all
pub volume_before-le : (cells : List DemandCell) (row : ℕ) (d : DemandCell) → row < length cells
    → volume_before cells row + counted (get_or cells row d) ≤ volume_before cells (length cells)
volume_before-le cells row d inside =
    omega (arith, sum_by_more_le counted cells row d inside, ap (sum_by counted) (take-length cells))

-- rows were counted up to a place: their volume, and that they make no more vehicles than there may be
pub record IsCounted (cells : List DemandCell) (rows volume : ℕ) : Type 0 where
  pub is : volume ≡ volume_before cells rows
  pub few : (before : ℕ) → before < rows → vehicles_before cells (before + 1) ≤ MOST_TRIPS
  pub low : volume / VOLUME_OF_A_VEHICLE ≤ MOST_TRIPS

counted-le : (cell : DemandCell) → counted cell ≤ cell.volume
counted-le cell = grind (arith, common_steps)

pub counted_fits : (cells : List DemandCell) (row volume : ℕ) (d : DemandCell)
    → IsCounted cells row volume → row < length cells → All (λ c. c.volume ≤ MOST_THOUSANDTHS) cells
    → volume + counted (get_or cells row d) < 2 ^ 64
counted_fits cells row volume d so_far inside volumes =
    omega (arith, counted-le (get_or cells row d), All-get_or (λ c. c.volume ≤ MOST_THOUSANDTHS) cells row d inside volumes, so_far.low)

counted_total : (cells : List DemandCell) (row volume : ℕ) (d : DemandCell)
    → IsCounted cells row volume → row < length cells
    → vehicles_before cells (row + 1) ≡ (volume + counted (get_or cells row d)) / VOLUME_OF_A_VEHICLE
counted_total cells row volume d so_far inside =
    vehicles_before-volume cells (row + 1)
    ∙ ap (λ n. n / VOLUME_OF_A_VEHICLE) (volume_before-more cells row d inside ∙ ap (λ n. n + counted (get_or cells row d)) (sym so_far.is))

pub counted_more : (cells : List DemandCell) (row volume more : ℕ) (d : DemandCell)
    → IsCounted cells row volume → row < length cells → more ≡ volume + counted (get_or cells row d)
    → more / VOLUME_OF_A_VEHICLE ≤ MOST_TRIPS → IsCounted cells (row + 1) more
counted_more cells row volume more d so_far inside sum_is low = record {
  is = sum_is ∙ ap (λ n. n + counted (get_or cells row d)) so_far.is
      ∙ sym (volume_before-more cells row d inside);
  few = below_more _ row so_far.few (rw (counted_total cells row volume d so_far inside, sym sum_is) low);
  low = low;
}

pub counted_all : (cells : List DemandCell) (rows volume : ℕ) → IsCounted cells rows volume
    → length cells ≤ rows → rows ≤ length cells
    → volume / VOLUME_OF_A_VEHICLE ≡ vehicles_before cells (length cells)
counted_all cells rows volume so_far past within =
    let all : rows ≡ length cells = omega arith in
    ap (λ n. n / VOLUME_OF_A_VEHICLE) so_far.is
    ∙ ap (λ n. volume_before cells n / VOLUME_OF_A_VEHICLE) all
    ∙ sym (vehicles_before-volume cells (length cells))

pub counted_above : (cells : List DemandCell) (row volume more : ℕ) (d : DemandCell)
    → IsCounted cells row volume → row < length cells → more ≡ volume + counted (get_or cells row d)
    → MOST_TRIPS < more / VOLUME_OF_A_VEHICLE
    → TellsFirstAbove cells (TooMany (get_or cells row d).line (more / VOLUME_OF_A_VEHICLE))
counted_above cells row volume more d so_far inside sum_is above = record {
  line = (get_or cells row d).line;
  total = more / VOLUME_OF_A_VEHICLE;
  is = refl;
  first = record {
    row = row;
    cell = get_or cells row d;
    at = slice_get-get_or cells row d inside;
    on = refl;
    so_many = counted_total cells row volume d so_far inside
        ∙ ap (λ n. n / VOLUME_OF_A_VEHICLE) (sym sum_is);
    above = above;
    first = so_far.few;
  };
}

pub ruleset counting = (counted_fits, counted_all, counted_above)
