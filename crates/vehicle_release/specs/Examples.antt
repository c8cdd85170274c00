-- Worked cases, computed.
use Rattle.std.specs.Prelude.{◌≡◌, ℕ, List, [], ◌∷◌, refl}
use Rattle.dta_model.specs.Release.{vehicles_before}
use Rattle.dta_model.specs.declared.trip.DemandCell.{DemandCell}
use Rattle.dta_model.specs.declared.trip.Trip.{Trip}
use Rattle.vehicle_release.specs.Unnumbered.{by_departure, renumbered}

-- a row of a line, with a volume in thousandths, over thirty steps
abbrev row : ℕ → ℕ → ℕ → DemandCell
row line destination volume = record {
  line = line;
  origin = 1;
  destination = destination;
  volume = volume;
  from = 0;
  to = 30;
}

-- a trip to a zone
abbrev trip : ℕ → ℕ → ℕ → Trip
trip number destination departs =
    record { number = number; origin = 1; destination = destination; departure = departs }

-- a row within a zone counts nothing, a row below the limit stays below it, and the next row is
-- the first above it
abbrev rows_above_the_limit : List DemandCell
rows_above_the_limit = row 2 1 9000000000 ∷ row 3 5 1999999999 ∷ row 4 6 1001 ∷ []

within_the_zone : vehicles_before rows_above_the_limit 1 ≡ 0
unfolding vehicles_before
within_the_zone = refl

below_the_limit : vehicles_before rows_above_the_limit 2 ≡ 1999999
unfolding vehicles_before
below_the_limit = refl

above_the_limit : vehicles_before rows_above_the_limit 3 ≡ 2000001
unfolding vehicles_before
above_the_limit = refl

-- trips of one step stay as they stand, and numbers follow the order
in_order : renumbered 0 (by_departure 30 (trip 0 4 15 ∷ trip 0 3 5 ∷ trip 0 3 15 ∷ []))
    ≡ trip 0 3 5 ∷ trip 1 4 15 ∷ trip 2 3 15 ∷ []
unfolding by_departure
in_order = refl
