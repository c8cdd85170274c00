-- The trace of a loading, step by step, and the journeys that it gives.
use Rattle.std.specs.Prelude.{ℕ, zero, suc, Bool, true, false, not, List, [], ◌++◌, map, filter}
use Rattle.std.specs.Prelude.{find, Option, None, Some}
use Rattle.std.specs.List.{flat_map}
use Rattle.dta_model.specs.NodeMoves.{node_moves}
use Rattle.dta_model.specs.Plans.{all_nodes, vehicles_of}
use Rattle.dta_model.specs.Trace.{Move, Target, Onto, Arrived, moves_of}
use Rattle.dta_model.specs.declared.loaded.Journey.{Journey}
use Rattle.dta_model.specs.declared.plan.Plan.{Plan}

-- the moves of step t at the nodes of a list, each by the trace at the start of the step
abbrev pub step_moves : Plan → ℕ → List Move → List ℕ → List Move
step_moves p t T nodes = flat_map (λ n. node_moves p n t T) nodes

-- a trace followed by the moves of step t, the nodes in table order
unfoldable pub after_step : Plan → ℕ → List Move → List Move
after_step p t T = T ++ step_moves p t T (all_nodes p)

-- the trace after so many steps
unfoldable pub trace_after : Plan → ℕ → List Move
trace_after p zero = []
trace_after p (suc t) = after_step p t (trace_after p t)

abbrev pub is_onto : Target → Bool
is_onto (Onto l) = true
is_onto Arrived = false

-- whether a move enters a link
abbrev pub is_entry : Move → Bool
is_entry m = is_onto m.target

abbrev pub step_in : Option Move → Option ℕ
step_in None = None
step_in (Some m) = Some m.step

-- the steps in which a vehicle entered its links, and the step of its arrival
unfoldable pub entries_of : List Move → ℕ → List ℕ
entries_of T v = map (λ m. m.step) (filter is_entry (moves_of v T))

unfoldable pub arrival_of : List Move → ℕ → Option ℕ
arrival_of T v = step_in (find (λ m. not (is_entry m)) (moves_of v T))

-- the journey of a vehicle in a trace, and those of all vehicles in order
abbrev pub journey_in : List Move → ℕ → Journey
journey_in T v = record {
  entries = entries_of T v;
  arrival = arrival_of T v;
}

unfoldable pub journeys_in : Plan → List Move → List Journey
journeys_in p T = map (journey_in T) (vehicles_of p)

-- the same of a loading: in its whole trace
unfoldable pub journey_of : Plan → ℕ → Journey
journey_of p v = journey_in (trace_after p p.horizon) v

unfoldable pub journeys_of : Plan → List Journey
journeys_of p = map (journey_of p) (vehicles_of p)
