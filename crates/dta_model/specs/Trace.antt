-- A loading as one growing list of moves, its trace. Where each vehicle is follows from its moves
-- alone.
use Rattle.std.specs.List.{list_any}
use Rattle.std.specs.Prelude.{ℕ, Bool, false, cond, nat_eq, List, [], ◌∷◌, Option, None, Some}
use Rattle.std.specs.Prelude.{slice_get, map, filter, find, count_by}
use Rattle.dta_model.specs.declared.plan.Plan.{Plan}
use Rattle.dta_model.specs.Plans.{route_of}

-- where a move leads: onto a link, or out of the network at the end of the route
pub data Target : Type 0 where
  Onto : ℕ → Target
  Arrived : Target

-- a move of a vehicle in a step
pub record Move : Type 0 where
  pub step : ℕ
  pub vehicle : ℕ
  pub target : Target

abbrev pub is_link : ℕ → Target → Bool
is_link l (Onto b) = nat_eq b l
is_link l Arrived = false

-- whether a move leads onto link l
abbrev pub leads_to : ℕ → Move → Bool
leads_to l m = is_link l m.target

-- whether a move is that of vehicle v
abbrev pub is_of : ℕ → Move → Bool
is_of v m = nat_eq m.vehicle v

-- a vehicle's moves, in order
unfoldable pub moves_of : ℕ → List Move → List Move
moves_of v T = filter (is_of v) T

-- whether a vehicle has moved
unfoldable pub has_moved : ℕ → List Move → Bool
has_moved v T = list_any (is_of v) T

-- each vehicle's last move, in the order of the trace
unfoldable pub last_moves : List Move → List Move
last_moves [] = []
last_moves (m ∷ T) = cond (has_moved m.vehicle T) (last_moves T) (m ∷ last_moves T)

-- the last move of a vehicle, if it has moved
unfoldable pub last_move : ℕ → List Move → Option Move
last_move v T = find (is_of v) (last_moves T)

-- the queue of a link: the vehicles on it, in the order in which they entered it
unfoldable pub queue_of : ℕ → List Move → List ℕ
queue_of l T = map (λ m. m.vehicle) (filter (leads_to l) (last_moves T))

-- how many moves a vehicle has made
unfoldable pub moves_made : ℕ → List Move → ℕ
moves_made v T = count_by (is_of v) T

abbrev pub leads_there : ℕ → Option Move → Bool
leads_there l None = false
leads_there l (Some m) = leads_to l m

-- whether a vehicle is on link l: its last move leads there
unfoldable pub stands_on : ℕ → List Move → ℕ → Bool
stands_on l T v = leads_there l (last_move v T)

abbrev pub target_at : Option ℕ → Target
target_at None = Arrived
target_at (Some l) = Onto l

-- where a vehicle goes next: to the link of its route at the place that is the number of its
-- moves, or out where the route ends
unfoldable pub next_target : Plan → List Move → ℕ → Target
next_target p T v = target_at (slice_get (route_of p v) (moves_made v T))
