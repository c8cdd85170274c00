use Rattle.std.proofs.Common.{ap, arith, ◌∙◌, sym}
use Rattle.phase_claims.specs.Passes.{FloorState}
use Rattle.phase_claims.proofs.Allowed.{finishes_allowed}
use Rattle.phase_claims.proofs.floor.Floor.finish.Goals as goal

pub fetch_add-requires : goal.fetch_add-requires
fetch_add-requires c = (
  c.requires.table ∙ sym (ap (λ (f : FloorState). f.table) c.self.view_is),
  omega (arith, c.self.invariant.words),
  finishes_allowed _ _ _ _ _ c.requires.open c.requires.weight c.requires.last c.requires.all c.requires.done c.requires.told,
)
