-- Waiting lines while a loading is opened.
use Rattle.net_core.specs.Network.{numbers_below}
use Rattle.std.specs.Prelude.{ℕ, List, [], ◌∷◌, ◌++◌, length, map, filter, Option, None, Some}
use Rattle.std.specs.Prelude.{slice_get}
use Rattle.dta_model.specs.NodeMoves.{is_first}
use Rattle.dta_model.specs.Plans.{first_link, vehicle_count}
use Rattle.dta_model.specs.Riders.{RiderState, riders}
use Rattle.dta_model.specs.declared.plan.Plan.{Plan}
use Rattle.node_transfer.specs.Places.{changed_at}

-- so many lines without riders
abbrev pub empty_lines : ℕ → List (List RiderState)
empty_lines count = map (λ b. []) (numbers_below count)

-- the first vehicles whose routes begin on a link, as riders who haven't moved
abbrev pub line_below : Plan → ℕ → ℕ → List RiderState
line_below p count b = riders p [] (filter (λ v. is_first b (first_link p v)) (numbers_below count))

-- the same for each link
abbrev pub lines_below : Plan → ℕ → List (List RiderState)
lines_below p count = map (line_below p count) (numbers_below (length p.net.links))

-- those of all vehicles
abbrev pub lines_at_start : Plan → List (List RiderState)
lines_at_start p = lines_below p (vehicle_count p)

-- one more rider at the end of a line, and at the end of the line at a place
abbrev pub with_last : RiderState → List RiderState → List RiderState
with_last r line = line ++ r ∷ []

abbrev pub put_at : Option ℕ → RiderState → List (List RiderState) → List (List RiderState)
put_at None r lines = lines
put_at (Some l) r lines = changed_at (with_last r) l lines

-- a rider last in the line of the first link of its route
abbrev pub put_last : RiderState → List (List RiderState) → List (List RiderState)
put_last r lines = put_at (slice_get r.ahead 0) r lines
