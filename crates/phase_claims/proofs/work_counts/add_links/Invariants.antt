use Rattle.std.proofs.Common.{◌≡◌, take}
use Rattle.dta_model.specs.Lent.{plan_of}
use Rattle.dta_model.specs.Loading.{trace_after}
use Rattle.dta_model.specs.Plans.{ins}
use Rattle.dta_model.specs.State.{count_on}
use Rattle.phase_claims.specs.PlacesCounted.{firsts_on}
use Rattle.phase_claims.proofs.PlacesSums.{puts}
use Rattle.phase_claims.proofs.work_counts.add_links.Given as goal

abbrev pub invariant-loop-place : goal.invariant-loop-place
invariant-loop-place l =
    let p = plan_of l.loading in
    l.first ≡ puts (λ k. count_on (trace_after p l.steps) k) (take l.place (ins p l.fn.node.0)) (firsts_on p l.steps l.fn.node.0)
