use Rattle.std.proofs.Common.{◌≡◌, arith, subst, sym}
use Rattle.phase_claims.specs.declared.unit.Open.TheVariants as answer
use Rattle.phase_claims.specs.declared.view.View.{View}
use Rattle.phase_claims.specs.Passes.{IsHeld, Opens, PassState}
use Rattle.phase_claims.specs.Views.{first_of_phase}
use Rattle.phase_claims.proofs.Allowed.{looks_allowed}
use Rattle.phase_claims.proofs.Owners.{first_held, opened, opened_pass, same_table}
use Rattle.phase_claims.proofs.floor.Floor.open.Goals as goal

pub load-finished-requires : goal.load-finished-requires
load-finished-requires c =
    let held = subst (λ (p : PassState). IsHeld p.view.stage) (sym c.pass.view_is) c.requires.held in (
      same_table _ _ _ _ c.self.view_is c.pass.view_is c.requires.own,
      omega (arith, c.self.invariant.words),
      looks_allowed _ _ _ _ held c.pass.invariant.weight c.pass.invariant.slots,
    )

pub invariant_of-pass : goal.invariant_of-pass
invariant_of-pass c =
    let me : View = c.pass.inside.seat.me.0 in
    let held = subst (λ (p : PassState). IsHeld p.view.stage) (sym c.pass.view_is) c.requires.held in
    let first : first_of_phase me ≡ c.pass.inside.place.phase.first = first_held _ _ _ _ held c.pass.invariant.place.phase in
    opened_pass _ _ _ _ _ c.pass.invariant c.in-Held.is _ c.min.ensures c.load-finished.new.seat.me c.load-finished.result
    (c.load-finished.ensures.2.1.opens (omega (arith, first, c.if-phase-finished.true))) c.load-finished.ensures.2.0

pub returns-then-phase-finished-clause-told : goal.returns-then-phase-finished-clause-told
returns-then-phase-finished-clause-told c =
    let me : View = c.pass.inside.seat.me.0 in
    let held = subst (λ (p : PassState). IsHeld p.view.stage) (sym c.pass.view_is) c.requires.held in
    let first : first_of_phase me ≡ c.pass.inside.place.phase.first = first_held _ _ _ _ held c.pass.invariant.place.phase in
    subst (λ (p : PassState). Opens p.view answer.Yes c.load-finished.new.seat.me.0) c.pass.view_is
    (opened me c.load-finished.new.seat.me.0 c.load-finished.result c.load-finished.ensures.2.1 (omega (arith, first, c.if-phase-finished.true)))
