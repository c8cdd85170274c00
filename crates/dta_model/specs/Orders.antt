-- Loadings that take the nodes of a step in another order.
use Rattle.std.specs.Prelude.{◌≡◌, ℕ, zero, suc, List, [], ◌++◌}
use Rattle.std.specs.List.Sorted.{IsPermutation}
use Rattle.dta_model.specs.Loading.{step_moves, trace_after, journeys_in, journeys_of}
use Rattle.dta_model.specs.Plans.{all_nodes}
use Rattle.dta_model.specs.State.{eight_in}
use Rattle.dta_model.specs.Trace.{Move, queue_of, moves_of}
use Rattle.dta_model.specs.declared.plan.Plan.{Plan}

-- the trace after so many steps, where step t takes the nodes in the order `order t`
unfoldable pub trace_in : Plan → (ℕ → List ℕ) → ℕ → List Move
trace_in p order zero = []
trace_in p order (suc t) = trace_in p order t ++ step_moves p t (trace_in p order t) (order t)

-- two traces of t steps that show the same: each link's queue, each vehicle's moves, and the eight
-- numbers
pub record ShowsSame (p : Plan) (t : ℕ) (T U : List Move) : Type 0 where
  pub queues : (l : ℕ) → queue_of l T ≡ queue_of l U
  pub moves : (v : ℕ) → moves_of v T ≡ moves_of v U
  pub eight : eight_in p t T ≡ eight_in p t U

-- orders of all nodes, one for each step
abbrev pub AreOrders : Plan → (ℕ → List ℕ) → Type 0
AreOrders p order = (t : ℕ) → IsPermutation (all_nodes p) (order t)

-- the nodes of a step may be taken in any order
abbrev pub AnyOrder : Type 0
AnyOrder =
    (p : Plan) (order : ℕ → List ℕ) → AreOrders p order
    → (t : ℕ) → ShowsSame p t (trace_in p order t) (trace_after p t)

-- so the journeys are those of the loading
abbrev pub SameJourneys : Type 0
SameJourneys =
    (p : Plan) (order : ℕ → List ℕ) → AreOrders p order
    → journeys_in p (trace_in p order p.horizon) ≡ journeys_of p
