use Rattle.std.proofs.Common.{ap, arith, sym, subst, ◌∙◌}
use Rattle.claim_core.specs.Phases.{IsPhase}
use Rattle.dta_model.specs.Units.{node_count}
use Rattle.phase_claims.specs.Passes.{FloorState}
use Rattle.phase_claims.specs.declared.view.Scope.{Scope}
use Rattle.phase_claims.proofs.Owners.{any_phase, turned, idle_place}
use Rattle.phase_claims.proofs.floor.Floor.go_on.Goals as goal

pub returns-then-next-middle-clause-place : goal.returns-then-next-middle-clause-place
returns-then-next-middle-clause-place c =
    turned c.args.seat.now.me.0 _ _ _ _ c.requires.place c.in-Open.is c.requires.inside _ (ap (λ x. x.0) c.turn.ensures.done) c.if-next-middle.true

pub phase_from-place-requires-clause-known : goal.phase_from-place-requires-clause-known
phase_from-place-requires-clause-known c =
    let nodes = c.self.invariant.nodes ∙ ap (λ (f : FloorState). node_count f.scope.plan) c.self.view_is ∙ ap (λ (k : Scope). node_count k.plan) (sym c.requires.scope) in
    subst (λ n. IsPhase n c.args.place.now.phase) (sym nodes) (any_phase _ _ _ _ c.requires.place.phase)

pub returns-else-middle-end-clause-place : goal.returns-else-middle-end-clause-place
returns-else-middle-end-clause-place c =
    idle_place c.args.seat.now.me.0 _ _ _ _ c.requires.place c.in-Open.is c.requires.inside _ (ap (λ x. x.0) c.finish.ensures.done) (omega (arith, c.if-middle-end.false))
