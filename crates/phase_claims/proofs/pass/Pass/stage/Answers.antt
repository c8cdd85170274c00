use Rattle.std.proofs.Common.{subst}
use Rattle.phase_claims.specs.Passes.{IsAmongOpen, PassState}
use Rattle.phase_claims.proofs.Owners.{among_open}
use Rattle.phase_claims.proofs.pass.Pass.stage.Goals as goal

pub returns-clause-at : goal.returns-clause-at
returns-clause-at c = subst (λ (p : PassState). IsAmongOpen p.view.stage p.view.at) c.self.view_is (among_open _ _ _ c.self.invariant.inside)
