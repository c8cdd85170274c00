-- The moves of a node by one pass over its links, as a program makes them.
use Rattle.std.specs.Prelude.{◌≡◌, ℕ, zero, suc, List, [], ◌∷◌, Option}
use Rattle.dta_model.specs.Loading.{trace_after}
use Rattle.dta_model.specs.NodeMoves.{grow, head_move, admission, in_order, node_moves}
use Rattle.dta_model.specs.Plans.{vehicle_count, outs}
use Rattle.dta_model.specs.Sound.{IsSound}
use Rattle.dta_model.specs.Trace.{Move}
use Rattle.dta_model.specs.declared.plan.Plan.{Plan}

-- M followed by the moves that one link gives, until it gives none, or so many
unfoldable pub drained : (List Move → Option Move) → ℕ → List Move → List Move
drained give zero M = M
drained give (suc most) M = grow (drained give most) M (give M)

-- by each link once, in order
unfoldable pub pass_links : ℕ → (ℕ → List Move → Option Move) → List ℕ → List Move → List Move
pass_links most give [] M = M
pass_links most give (l ∷ ls) M = pass_links most give ls (drained (give l) most M)

-- by each in-link in the order of the step, and then by each out-link
unfoldable pub one_pass : Plan → ℕ → ℕ → List Move → List Move
one_pass p n t T0 =
    pass_links (vehicle_count p) (λ b M. admission p n t T0 M b) (outs p n)
    (pass_links (vehicle_count p) (λ l M. head_move p n t T0 M l) (in_order p n t T0) [])

-- to begin again at the first in-link for each move comes to the same as one pass
abbrev pub OnePassIsEnough : Type 0
OnePassIsEnough =
    (p : Plan) → IsSound p → (n t : ℕ)
    → node_moves p n t (trace_after p t) ≡ one_pass p n t (trace_after p t)
