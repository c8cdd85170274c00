use Rattle.std.proofs.Common.{◌≤◌, arith, subst, sym}
use Rattle.phase_claims.specs.Passes.{PassState}
use Rattle.phase_claims.proofs.Allowed.{splits_allowed}
use Rattle.phase_claims.proofs.Owners.{same_table}
use Rattle.phase_claims.proofs.floor.Floor.split.Goals as goal

pub split_seat-other-requires : goal.split_seat-other-requires
split_seat-other-requires c =
    let spare = subst (λ (p : PassState). 1 ≤ p.view.spare) (sym c.pass.view_is) c.requires.spare in (
      same_table _ _ _ _ c.self.view_is c.pass.view_is c.requires.own,
      omega (arith, c.self.invariant.words),
      splits_allowed _ _ _ c.pass.invariant.weight spare,
    )
