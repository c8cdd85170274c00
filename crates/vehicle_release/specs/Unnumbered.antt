-- Trips before they are in order and numbered.
use Rattle.std.specs.Prelude.{ℕ, ◌+◌, nat_eq, List, [], ◌∷◌, filter, slice_get}
use Rattle.std.specs.List.{flat_map}
use Rattle.net_core.specs.Network.{numbers_below}
use Rattle.dta_model.specs.Release.{Released, departure, trip_by}
use Rattle.dta_model.specs.declared.trip.DemandCell.{DemandCell}
use Rattle.dta_model.specs.declared.trip.Trip.{Trip}

-- the trip of a vehicle without its number
abbrev pub unnumbered : List DemandCell → Released → Trip
unnumbered cells r = trip_by (slice_get cells r.row) 0 r.departs

-- the same of vehicle j of the so many that a row has
abbrev pub trip_at : ℕ → DemandCell → ℕ → Trip
trip_at vehicles cell j =
    record {
      number = 0;
      origin = cell.origin;
      destination = cell.destination;
      departure = departure cell.from cell.to vehicles j;
    }

-- trips by the steps in which they depart, of so many steps, those of one step as they stand
unfoldable pub by_departure : ℕ → List Trip → List Trip
by_departure steps trips =
    flat_map (λ step. filter (λ trip. nat_eq trip.departure step) trips) (numbers_below steps)

-- trips as they stand, numbered from one on
abbrev pub renumbered : ℕ → List Trip → List Trip
renumbered number [] = []
renumbered number (trip ∷ rest) = record trip { number = number } ∷ renumbered (number + 1) rest
