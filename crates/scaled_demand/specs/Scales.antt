-- Demand times a scale, and the first scenario whose vehicles are too many.
use Rattle.std.specs.Prelude.{ℕ, ◌≡◌, ◌<◌, ◌*◌, ◌/◌, min, List, All, map, Some, slice_get}
use Rattle.fixed_units.specs.declared.quantity.TheConstants.{MOST_THOUSANDTHS}
use Rattle.dta_model.specs.Release.{trips_of}
use Rattle.dta_model.specs.declared.trip.DemandCell.{DemandCell}
use Rattle.dta_model.specs.declared.trip.Trip.{Trip}
use Rattle.vehicle_release.specs.Limits.{IsFirstAbove, IsWithin}

-- a volume times a scale in thousandths, rounded down, and at most the most that a volume may be
abbrev pub scaled_volume : ℕ → ℕ → ℕ
scaled_volume scale volume = min MOST_THOUSANDTHS (volume * scale / 1000)

-- a demand row with its volume times a scale; its window stays
abbrev pub scaled_cell : ℕ → DemandCell → DemandCell
scaled_cell scale cell = record cell { volume = scaled_volume scale cell.volume }

-- demand rows with their volumes times a scale
abbrev pub scaled : ℕ → List DemandCell → List DemandCell
scaled scale cells = map (scaled_cell scale) cells

-- the trips of a scenario
abbrev pub trips_at : ℕ → List DemandCell → List Trip
trips_at scale cells = trips_of (scaled scale cells)

-- the vehicles of each scenario are no more than there may be
abbrev pub AreAllWithin : List DemandCell → List ℕ → Type 0
AreAllWithin cells scales = All (λ scale. IsWithin (scaled scale cells)) scales

-- the scenario at this place is the first whose vehicles are too many: the row of this line is the
-- first with which they are, and there are so many up to and with it
pub record IsFirstTooMany (cells : List DemandCell) (scales : List ℕ) (scenario line total : ℕ)
    : Type 0 where
  pub scale : ℕ
  pub at : slice_get scales scenario ≡ Some scale
  pub above : IsFirstAbove (scaled scale cells) line total
  pub before : (earlier other : ℕ) → earlier < scenario → slice_get scales earlier ≡ Some other
      → IsWithin (scaled other cells)
