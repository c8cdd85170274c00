-- The state after a number of steps, and its eight numbers.
use Rattle.std.specs.Prelude.{ℕ, Bool, true, false, ◌&&◌, not, nat_lt, List, [], ◌∷◌, length}
use Rattle.std.specs.Prelude.{Option, None, Some, slice_get, count_by}
use Rattle.net_core.specs.declared.rows.LinkNo.{LinkNo}
use Rattle.dta_model.specs.Loading.{trace_after, is_onto}
use Rattle.dta_model.specs.Plans.{vehicles_of, departure_of}
use Rattle.dta_model.specs.Trace.{Move, last_move, queue_of, has_moved}
use Rattle.dta_model.specs.declared.eight.Eight.{Eight}
use Rattle.dta_model.specs.declared.plan.Plan.{Plan}

abbrev pub some_route : Option (Option (List LinkNo)) → Bool
some_route None = false
some_route (Some None) = false
some_route (Some (Some route)) = true

-- whether a vehicle has a route; only those that have one are loaded
unfoldable pub is_routed : Plan → ℕ → Bool
is_routed p v = some_route (slice_get p.routes v)

-- whether a vehicle is loaded and due after so many steps: its departure is below them
unfoldable pub is_due : Plan → ℕ → ℕ → Bool
is_due p steps v = is_routed p v && nat_lt (departure_of p v) steps

abbrev pub leads_onto : Option Move → Bool
leads_onto None = false
leads_onto (Some m) = is_onto m.target

abbrev pub leads_out : Option Move → Bool
leads_out None = false
leads_out (Some m) = not (is_onto m.target)

-- whether a vehicle waits (it hasn't moved), runs (its last move leads onto a link), or has
-- arrived (its last move leads out)
unfoldable pub waits : List Move → ℕ → Bool
waits T v = not (has_moved v T)

unfoldable pub runs : List Move → ℕ → Bool
runs T v = leads_onto (last_move v T)

unfoldable pub has_arrived : List Move → ℕ → Bool
has_arrived T v = leads_out (last_move v T)

-- how many vehicles are due after so many steps, and how many of them wait, run and have arrived
unfoldable pub due_after : Plan → ℕ → ℕ
due_after p t = count_by (is_due p t) (vehicles_of p)

unfoldable pub waiting_in : Plan → ℕ → List Move → ℕ
waiting_in p t T = count_by (λ v. is_due p t v && waits T v) (vehicles_of p)

unfoldable pub running_in : Plan → ℕ → List Move → ℕ
running_in p t T = count_by (λ v. is_due p t v && runs T v) (vehicles_of p)

unfoldable pub arrived_in : Plan → ℕ → List Move → ℕ
arrived_in p t T = count_by (λ v. is_due p t v && has_arrived T v) (vehicles_of p)

-- the vehicles on a link; none are on one that isn't in the table
unfoldable pub count_on : List Move → ℕ → ℕ
count_on T l = length (queue_of l T)

-- the eight numbers of a trace of t steps
unfoldable pub eight_in : Plan → ℕ → List Move → Eight
eight_in p t T = record {
  steps = t;
  waiting = waiting_in p t T;
  running = running_in p t T;
  arrived = arrived_in p t T;
  first = count_on T 0 ∷ count_on T 1 ∷ count_on T 2 ∷ count_on T 3 ∷ [];
}

-- the eight numbers after t steps
unfoldable pub eight_after : Plan → ℕ → Eight
eight_after p t = eight_in p t (trace_after p t)

-- the eight numbers where no step is finished: nothing is due
unfoldable pub no_vehicles : Eight
no_vehicles = record {
  steps = 0;
  waiting = 0;
  running = 0;
  arrived = 0;
  first = 0 ∷ 0 ∷ 0 ∷ 0 ∷ [];
}
