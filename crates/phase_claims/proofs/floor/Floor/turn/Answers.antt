use Rattle.std.proofs.Common.{ap, arith, ◌∙◌, sym}
use Rattle.phase_claims.specs.Passes.{FloorState}
use Rattle.phase_claims.proofs.Allowed.{turns_allowed}
use Rattle.phase_claims.proofs.floor.Floor.turn.Goals as goal

pub load-requires : goal.load-requires
load-requires c = (
  c.requires.table ∙ sym (ap (λ (f : FloorState). f.table) c.self.view_is),
  omega (arith, c.self.invariant.words),
  turns_allowed _ _ _ _ c.requires.open c.requires.weight c.requires.more c.requires.done c.requires.told,
)
