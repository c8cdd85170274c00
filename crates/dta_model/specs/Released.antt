-- What is true of the trips that a table releases.
use Rattle.std.specs.Prelude.{◌≡◌, ◌≢◌, ℕ, ◌+◌, ◌-◌, ◌*◌, ◌<◌, ◌≤◌, ◌&&◌, nat_le, nat_lt, List}
use Rattle.std.specs.Prelude.{length, map, count_by, All, Some, slice_get}
use Rattle.std.specs.List.Sorted.{IsNonDecreasingBy}
use Rattle.net_core.specs.Network.{numbers_below}
use Rattle.dta_model.specs.Release.{HaveWindows, Released, released_by, trips_of}
use Rattle.dta_model.specs.Release.{vehicles_before, vehicles_of_row}
use Rattle.dta_model.specs.declared.trip.DemandCell.{DemandCell}
use Rattle.dta_model.specs.declared.trip.Trip.{Trip}

-- a trip leads between the zones of a row, and departs within its window
pub record IsOfRow (cells : List DemandCell) (trip : Trip) : Type 0 where
  pub row : ℕ
  pub cell : DemandCell
  pub there : slice_get cells row ≡ Some cell
  pub origin : trip.origin ≡ cell.origin
  pub destination : trip.destination ≡ cell.destination
  pub begun : cell.from ≤ trip.departure
  pub before_end : trip.departure < cell.to

pub record IsRelease (cells : List DemandCell) (steps : ℕ) (trips : List Trip) : Type 0 where
  -- there are as many as all volumes together make whole vehicles
  pub total : length trips ≡ vehicles_before cells (length cells)
  -- they are numbered in order from 0, and lead from a zone to another
  pub numbered : map (λ trip. trip.number) trips ≡ numbers_below (length trips)
  pub apart : All (λ trip. trip.origin ≢ trip.destination) trips
  -- each departs within the window of its row
  pub of_rows : All (IsOfRow cells) trips
  -- departures don't fall, and are before the steps end
  pub rising : IsNonDecreasingBy (λ trip. trip.departure) trips
  pub early : All (λ trip. trip.departure < steps) trips

-- the trips of a table are such, within any steps in which all windows end
abbrev pub TripsAreReleased : Type 0
TripsAreReleased =
    (cells : List DemandCell) (steps : ℕ) → HaveWindows steps cells
    → IsRelease cells steps (trips_of cells)

-- how many of some vehicles depart from step a on and before step b
abbrev pub departing : ℕ → ℕ → List Released → ℕ
departing a b all = count_by (λ r. nat_le a r.departs && nat_lt r.departs b) all

-- over steps within its window fewer vehicles of a row depart than the share of these steps, which
-- is vehicles_of_row * (b - a) / (to - from), and one
abbrev pub DeparturesAreEven : Type 0
DeparturesAreEven =
    (cells : List DemandCell) (row : ℕ) (cell : DemandCell) (a b : ℕ)
    → slice_get cells row ≡ Some cell → cell.from < cell.to
    → cell.from ≤ a → a ≤ b → b ≤ cell.to
    → departing a b (released_by cells row) * (cell.to - cell.from)
    < vehicles_of_row cells row * (b - a) + (cell.to - cell.from)
