-- When the rows of a demand table make too many vehicles.
use Rattle.std.specs.Prelude.{◌≡◌, ℕ, ◌+◌, ◌<◌, ◌≤◌, List, length, Some, slice_get}
use Rattle.dta_model.specs.Release.{vehicles_before}
use Rattle.dta_model.specs.declared.trip.DemandCell.{DemandCell}
use Rattle.dta_model.specs.declared.trip.TheConstants.{MOST_TRIPS}
use Rattle.vehicle_release.specs.declared.fault.ReleaseFault.{ReleaseFault}
use Rattle.vehicle_release.specs.declared.fault.ReleaseFault.TheVariants.{TooMany}

-- up to and with each row there are no more vehicles than there may be
abbrev pub IsWithin : List DemandCell → Type 0
IsWithin cells = (row : ℕ) → row < length cells → vehicles_before cells (row + 1) ≤ MOST_TRIPS

-- the row of a line is the first with which the vehicles are too many, and there are so many up to
-- and with it
pub record IsFirstAbove (cells : List DemandCell) (line total : ℕ) : Type 0 where
  pub row : ℕ
  pub cell : DemandCell
  pub at : slice_get cells row ≡ Some cell
  pub on : cell.line ≡ line
  pub so_many : vehicles_before cells (row + 1) ≡ total
  pub above : MOST_TRIPS < total
  pub first : (before : ℕ) → before < row → vehicles_before cells (before + 1) ≤ MOST_TRIPS

-- a fault tells the first row with which the vehicles are too many
pub record TellsFirstAbove (cells : List DemandCell) (fault : ReleaseFault) : Type 0 where
  pub line : ℕ
  pub total : ℕ
  pub is : fault ≡ TooMany line total
  pub first : IsFirstAbove cells line total
