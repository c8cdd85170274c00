-- The trips that the rows of a demand table release, each row over its own window of steps.
use Rattle.std.specs.Prelude.{ℕ, ◌+◌, ◌*◌, ◌/◌, ◌-◌, ◌<◌, ◌≤◌, cond, nat_eq, List, [], ◌∷◌, length}
use Rattle.std.specs.Prelude.{All, max, map, filter, sum_by, take, Option, None, Some, slice_get}
use Rattle.std.specs.List.{flat_map}
use Rattle.net_core.specs.Network.{numbers_below}
use Rattle.dta_model.specs.declared.trip.DemandCell.{DemandCell}
use Rattle.dta_model.specs.declared.trip.TheConstants.{VOLUME_OF_A_VEHICLE}
use Rattle.dta_model.specs.declared.trip.Trip.{Trip}

-- a row's volume; a row whose two zones are equal counts nothing
abbrev pub counted : DemandCell → ℕ
counted cell = cond (nat_eq cell.origin cell.destination) 0 cell.volume

-- the vehicles of the first rows together
unfoldable pub vehicles_before : List DemandCell → ℕ → ℕ
vehicles_before cells row = sum_by counted (take row cells) / VOLUME_OF_A_VEHICLE

-- the vehicles of a row
unfoldable pub vehicles_of_row : List DemandCell → ℕ → ℕ
vehicles_of_row cells row = vehicles_before cells (row + 1) - vehicles_before cells row

-- windows have a step, and end within so many steps
pub record HaveWindows (steps : ℕ) (cells : List DemandCell) : Type 0 where
  pub some : All (λ cell. cell.from < cell.to) cells
  pub within : All (λ cell. cell.to ≤ steps) cells

-- the end of the last window
abbrev pub last_end : List DemandCell → ℕ
last_end [] = 0
last_end (cell ∷ cells) = max cell.to (last_end cells)

-- the step in which vehicle j of n departs: the middle of its share of the window
unfoldable pub departure : ℕ → ℕ → ℕ → ℕ → ℕ
departure from to n j = from + ((2 * j + 1) * (to - from)) / (2 * n)

-- the same of a row
abbrev pub departure_by : Option DemandCell → ℕ → ℕ → ℕ
departure_by None n j = 0
departure_by (Some cell) n j = departure cell.from cell.to n j

-- a vehicle of a row, and the step in which it departs
pub record Released : Type 0 where
  pub row : ℕ
  pub departs : ℕ

-- vehicle j of a row
abbrev pub vehicle_of_row : List DemandCell → ℕ → ℕ → Released
vehicle_of_row cells row j = record {
  row = row;
  departs = departure_by (slice_get cells row) (vehicles_of_row cells row) j;
}

-- the vehicles of a row, in order
unfoldable pub released_by : List DemandCell → ℕ → List Released
released_by cells row =
    map (vehicle_of_row cells row) (numbers_below (vehicles_of_row cells row))

-- the vehicles of all rows, row by row
unfoldable pub released : List DemandCell → List Released
released cells = flat_map (released_by cells) (numbers_below (length cells))

-- vehicles by the steps in which they depart, of so many steps, those of one step as they stand
unfoldable pub in_order_of_departure : ℕ → List Released → List Released
in_order_of_departure steps all =
    flat_map (λ step. filter (λ r. nat_eq r.departs step) all) (numbers_below steps)

abbrev pub trip_by : Option DemandCell → ℕ → ℕ → Trip
trip_by None number departs =
    record { number = number; origin = 0; destination = 0; departure = departs }
trip_by (Some cell) number departs = record {
  number = number;
  origin = cell.origin;
  destination = cell.destination;
  departure = departs;
}

-- the trips of vehicles, numbered from one on
abbrev pub numbered : List DemandCell → ℕ → List Released → List Trip
numbered cells number [] = []
numbered cells number (r ∷ rest) =
    trip_by (slice_get cells r.row) number r.departs ∷ numbered cells (number + 1) rest

-- the trips of a table, by departure, then row, then the order within the row
unfoldable pub trips_of : List DemandCell → List Trip
trips_of cells = numbered cells 0 (in_order_of_departure (last_end cells) (released cells))
