use Rattle.std.proofs.Common.{◌≡◌, [], ◌∷◌}
use Rattle.std.specs.List.{repeat}
use Rattle.dta_model.specs.declared.machine.Stage.TheVariants as stage
use Rattle.claim_core.proofs.claims.Workers.idle.Given as goal

abbrev pub invariant-loop : goal.invariant-loop
invariant-loop l = l.stages.items ≡ repeat l.counter (stage.Idle ∷ [])
