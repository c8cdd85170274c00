-- Counts of loadings that take the nodes of a step in another order.
use Rattle.std.specs.Prelude.{◌≡◌, ℕ, List}
use Rattle.dta_model.specs.Orders.{AreOrders, trace_in}
use Rattle.dta_model.specs.declared.plan.Plan.{Plan}
use Rattle.counts.specs.Through.{through_counts, through_counts_in}
use Rattle.counts.specs.Turns.{turn_counts, turn_counts_in}

-- the nodes of a step may be taken in any order: the counts are those of the loading
abbrev pub SameTurnCounts : Type 0
SameTurnCounts =
    (p : Plan) (order : ℕ → List ℕ) → AreOrders p order
    → (bucket : ℕ) → turn_counts_in p bucket (trace_in p order p.horizon) ≡ turn_counts p bucket

abbrev pub SameThroughCounts : Type 0
SameThroughCounts =
    (p : Plan) (order : ℕ → List ℕ) → AreOrders p order
    → (l : ℕ) → through_counts_in p l (trace_in p order p.horizon) ≡ through_counts p l
