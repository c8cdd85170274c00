-- Routes by functions: the first ones, those of the next iteration, and since which iteration each
-- vehicle has its route.
use Rattle.std.specs.Prelude.{ℕ, zero, suc, ◌+◌, ◌&&◌, Bool, false, not, nat_eq, nat_lt, cond}
use Rattle.std.specs.Prelude.{if◌then◌else◌, List, [], ◌∷◌, length, map, Option, None, Some}
use Rattle.std.specs.Prelude.{is_some, option_map}
use Rattle.std.specs.List.{enumerate_from, zip}
use Rattle.net_core.specs.Network.{as_links, turn}
use Rattle.net_core.specs.Rows.{link_named}
use Rattle.net_core.specs.declared.rows.LinkNo.{LinkNo}
use Rattle.net_core.specs.declared.rows.NetRows.{NetRows}
use Rattle.dta_model.specs.Plans.{link_numbers}
use Rattle.dta_model.specs.Walks.{begins_in, ends_in}
use Rattle.dta_model.specs.declared.trip.Trip.{Trip}
use Rattle.trip_costs.specs.LoadingCosts.{kind_of}
use Rattle.trip_costs.specs.Timings.{Links, Timing}
use Rattle.trip_costs.specs.declared.loading_costs.Costs.{Costs}
use Rattle.route_flows.specs.Selection.{first_number, free_time, or_other, renews}
use Rattle.start_table.specs.Starts.{row_of}
use Rattle.start_table.specs.declared.rows.StartRow.{StartRow}
use Rattle.reference.specs.Search.{search}

-- the chosen walk of a trip from its departure, where there is a walk
unfoldable pub chosen_route : Timing → NetRows → Trip → Option (List LinkNo)
chosen_route costs net trip =
    option_map as_links (search costs net trip.origin trip.destination trip.departure)

-- ---- walks of a start table

-- whether links are in the table, with a turn from each to the next, and the last and no other
-- ends in the destination
unfoldable pub leads_into : NetRows → (destination : ℕ) → List ℕ → Bool
leads_into net destination [] = false
leads_into net destination (l ∷ []) = nat_lt l (length net.links) && ends_in net destination l
leads_into net destination (l ∷ b ∷ rest) =
    nat_lt l (length net.links) && (not (ends_in net destination l)
    && (is_some (turn net l b) && leads_into net destination (b ∷ rest)))

-- whether links are a walk from a zone to another
abbrev pub is_walk : NetRows → (origin destination : ℕ) → List ℕ → Bool
is_walk net origin destination [] = false
is_walk net origin destination (l ∷ rest) =
    begins_in net origin l && leads_into net destination (l ∷ rest)

-- the links of identifiers, where each is that of a link
abbrev pub first_and : Option LinkNo → Option (List LinkNo) → Option (List LinkNo)
first_and None others = None
first_and (Some link) None = None
first_and (Some link) (Some others) = Some (link ∷ others)

unfoldable pub links_named : NetRows → List ℕ → Option (List LinkNo)
links_named net [] = Some []
links_named net (id ∷ ids) = first_and (link_named net.links id) (links_named net ids)

-- the walk between two zones that identifiers name, if they name one
abbrev pub if_walk :
    NetRows → (origin destination : ℕ) → Option (List LinkNo) → Option (List LinkNo)
if_walk net origin destination None = None
if_walk net origin destination (Some links) =
    if is_walk net origin destination (link_numbers links) then Some links else None

unfoldable pub walk_named : NetRows → (origin destination : ℕ) → List ℕ → Option (List LinkNo)
walk_named net origin destination ids = if_walk net origin destination (links_named net ids)

-- the walk by which the row of a vehicle's number fits it, if it does
abbrev pub walk_in : NetRows → Trip → Option StartRow → Option (List LinkNo)
walk_in net trip None = None
walk_in net trip (Some row) =
    if nat_eq row.origin trip.origin && nat_eq row.destination trip.destination
    then walk_named net trip.origin trip.destination row.links else None

unfoldable pub started_route : NetRows → List StartRow → Trip → Option (List LinkNo)
started_route net start trip = walk_in net trip (row_of start trip.number)

-- ---- iterations

-- the first route of a vehicle: that of its row of the start table, or else its chosen walk by
-- free-flow steps
abbrev pub first_route : NetRows → List StartRow → Trip → Option (List LinkNo)
first_route net start trip =
    or_other (started_route net start trip) (chosen_route (Links (free_time net)) net trip)

unfoldable pub first_routes : NetRows → List StartRow → List Trip → List (Option (List LinkNo))
first_routes net start trips = map (first_route net start) trips

-- the route of vehicle v after iteration k: its chosen walk where it takes a new one, and else the
-- one that it has
abbrev pub next_route :
    Timing → NetRows → (k : ℕ) → ℕ × (Trip × Option (List LinkNo)) → Option (List LinkNo)
next_route costs net k (v, (trip, route)) =
    cond (renews (kind_of costs) k v) (chosen_route costs net trip) route

unfoldable pub next_routes :
    Timing → NetRows → List Trip → (k : ℕ) → List (Option (List LinkNo))
    → List (Option (List LinkNo))
next_routes costs net trips k routes =
    map (next_route costs net k) (enumerate_from 0 (zip trips routes))

-- ---- since when

-- the last iteration, of those below this number, after which vehicle v takes its chosen walk
unfoldable pub last_renewal : Costs → (v number : ℕ) → Option ℕ
last_renewal by v zero = None
last_renewal by v (suc k) = cond (nat_lt 0 k && renews by k v) (Some k) (last_renewal by v k)

-- the number of the iteration after that one; and where there is none that of the first route
abbrev pub number_of : Option ℕ → Option (List LinkNo) → ℕ
number_of None walk = first_number walk
number_of (Some k) walk = k + 1

-- the iteration since which a vehicle has the route that it has after so many
abbrev pub since : Costs → NetRows → List StartRow → (iterations : ℕ) → ℕ × Trip → ℕ
since by net start iterations (v, trip) =
    number_of (last_renewal by v iterations) (started_route net start trip)

unfoldable pub all_since :
    Costs → NetRows → List StartRow → List Trip → (iterations : ℕ) → List ℕ
all_since by net start trips iterations =
    map (since by net start iterations) (enumerate_from 0 trips)
