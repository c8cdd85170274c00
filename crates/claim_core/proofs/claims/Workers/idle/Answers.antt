use Rattle.std.proofs.Common.{◌++◌, [], ◌∷◌, ap, ◌∙◌}
use Rattle.dta_model.specs.declared.machine.Stage.TheVariants as stage
use Rattle.claim_core.proofs.AtStart.{one_idle_more}
use Rattle.claim_core.proofs.claims.Workers.idle.Goals as goal

pub loop-preserved : goal.loop-preserved
loop-preserved c = c.in_ok-push.ensures.items ∙ ap (λ xs. xs ++ stage.Idle ∷ []) c.loop.invariant ∙ one_idle_more c.loop.counter
