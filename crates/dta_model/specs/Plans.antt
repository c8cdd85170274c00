-- What a plan says of its links, turns and vehicles. Nodes, links and vehicles are positions from
-- 0.
use Rattle.std.specs.Prelude.{ℕ, Bool, ◌||◌, nat_lt, List, [], length, Option, None, Some}
use Rattle.std.specs.Prelude.{slice_get, map}
use Rattle.std.specs.Option.{is_none}
use Rattle.net_core.specs.Network as network
use Rattle.net_core.specs.Rates.{rate_in}
use Rattle.net_core.specs.Rows.{link_in}
use Rattle.net_core.specs.declared.rates.Rates.{Rates}
use Rattle.net_core.specs.declared.rows.LinkNo.{LinkNo}
use Rattle.net_core.specs.declared.rows.LinkRow.{LinkRow}
use Rattle.net_core.specs.declared.rows.Turn.{Turn}
use Rattle.dta_model.specs.Allowance.{allowance}
use Rattle.dta_model.specs.declared.plan.Plan.{Plan}
use Rattle.dta_model.specs.declared.trip.Trip.{Trip}

-- the link at a place of the table
abbrev pub link_at : Plan → ℕ → LinkRow
link_at p l = link_in p.net.links l

-- the links into and out of a node, in table order
abbrev pub ins : Plan → ℕ → List ℕ
ins p n = network.ins p.net n

abbrev pub outs : Plan → ℕ → List ℕ
outs p n = network.outs p.net n

-- the turn from a link to another, where it is allowed
abbrev pub turn : Plan → ℕ → ℕ → Option Turn
turn p a b = network.turn p.net a b

-- the rates that a link has in the steps, and those that a turn has
abbrev pub link_rates : Plan → ℕ → Rates
link_rates p l = network.link_rates p.net l

abbrev pub turn_rates : Plan → ℕ → ℕ → Rates
turn_rates p a b = network.turn_rates p.net a b

-- how many vehicles may enter a link in a step, and as many may leave it
unfoldable pub link_allowance : Plan → ℕ → ℕ → ℕ
link_allowance p l t = allowance (link_rates p l) p.delta t

-- whether a turn that was taken so often in a step may be taken once more; where it has no limit
-- in that step it always may
abbrev pub has_pass : Plan → Rates → ℕ → ℕ → Bool
has_pass p rates t used = is_none (rate_in rates t) || nat_lt used (allowance rates p.delta t)

-- how many vehicles there are, and all of them in order
abbrev pub vehicle_count : Plan → ℕ
vehicle_count p = length p.trips

abbrev pub vehicles_of : Plan → List ℕ
vehicles_of p = network.numbers_below (vehicle_count p)

-- the nodes in table order
abbrev pub all_nodes : Plan → List ℕ
all_nodes p = network.numbers_below (length p.net.nodes)

-- links by their positions
abbrev pub link_numbers : List LinkNo → List ℕ
link_numbers links = map (λ l. l.0) links

abbrev pub route_in : Option (Option (List LinkNo)) → List ℕ
route_in None = []
route_in (Some None) = []
route_in (Some (Some route)) = link_numbers route

-- the route of a vehicle, without links where there is none
unfoldable pub route_of : Plan → ℕ → List ℕ
route_of p v = route_in (slice_get p.routes v)

abbrev pub departure_in : Option Trip → ℕ
departure_in None = 0
departure_in (Some trip) = trip.departure

-- the step of a vehicle's departure
unfoldable pub departure_of : Plan → ℕ → ℕ
departure_of p v = departure_in (slice_get p.trips v)

-- the first link of a vehicle's route
unfoldable pub first_link : Plan → ℕ → Option ℕ
first_link p v = slice_get (route_of p v) 0
