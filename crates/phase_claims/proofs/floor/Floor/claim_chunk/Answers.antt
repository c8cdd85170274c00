use Rattle.std.proofs.Common.{ap, arith, ◌∙◌}
use Rattle.phase_claims.specs.Passes.{PassState}
use Rattle.phase_claims.proofs.Allowed.{draws_allowed}
use Rattle.phase_claims.proofs.Owners.{same_table}
use Rattle.phase_claims.proofs.floor.Floor.claim_chunk.Goals as goal

pub fetch_add-first-requires : goal.fetch_add-first-requires
fetch_add-first-requires c =
    let idle = ap (λ (p : PassState). p.view.stage) c.pass.view_is ∙ c.requires.idle in (
      same_table _ _ _ _ c.self.view_is c.pass.view_is c.requires.own,
      omega (arith, c.self.invariant.words),
      draws_allowed _ _ _ _ _ idle c.pass.invariant.weight c.requires.least c.requires.most,
    )
