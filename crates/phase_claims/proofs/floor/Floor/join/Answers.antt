use Rattle.std.proofs.Common.{arith, ◌∙◌, subst, sym}
use Rattle.phase_claims.specs.Passes.{HoldsNoUnit, PassState}
use Rattle.phase_claims.proofs.Allowed.{bounds_allowed, joins_allowed}
use Rattle.phase_claims.proofs.Owners.{same_table}
use Rattle.phase_claims.proofs.PlacesSteps.{none_carried}
use Rattle.phase_claims.proofs.floor.Floor.join.Goals as goal

pub join_seat-requires : goal.join_seat-requires
join_seat-requires c =
    let free = subst (λ (p : PassState). HoldsNoUnit p.view.stage) (sym c.a.view_is) c.requires.free in
    let free_too = subst (λ (p : PassState). HoldsNoUnit p.view.stage) (sym c.b.view_is) c.requires.free_too in (
      same_table _ _ _ _ c.self.view_is c.a.view_is c.requires.own,
      same_table _ _ _ _ c.self.view_is c.b.view_is c.requires.own_too,
      c.b.invariant.slots ∙ none_carried _ _ _ free_too,
      omega (arith, c.self.invariant.words),
      joins_allowed _ _ _ _ _ free free_too c.a.invariant.weight,
    )

pub load-requires : goal.load-requires
load-requires c = (
  c.join_seat.ensures.0 ∙ same_table _ _ _ _ c.self.view_is c.a.view_is c.requires.own,
  omega (arith, c.self.invariant.words),
  bounds_allowed _ _ _ _,
)
