-- Link times of loadings that take the nodes of a step in another order.
use Rattle.std.specs.Prelude.{◌≡◌, ℕ, List}
use Rattle.dta_model.specs.LinkTimes.{table_in, table_of}
use Rattle.dta_model.specs.Orders.{AreOrders, trace_in}
use Rattle.dta_model.specs.declared.plan.Plan.{Plan}

-- the nodes of a step may be taken in any order: the table is that of the loading
abbrev pub SameTimes : Type 0
SameTimes =
    (p : Plan) (order : ℕ → List ℕ) → AreOrders p order
    → (bucket : ℕ) → table_in p bucket (trace_in p order p.horizon) ≡ table_of p bucket
