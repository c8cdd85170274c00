use Rattle.std.proofs.Common.{ap, sym, ◌∙◌, subst}
use Rattle.claim_core.proofs.Working.{posting_kind}
use Rattle.dta_model.specs.Lent.{plan_of}
use Rattle.dta_model.specs.Sound.{IsSound}
use Rattle.dta_model.specs.Units.{node_count, task_of}
use Rattle.phase_claims.specs.Passes.{FloorState, kind_at}
use Rattle.phase_claims.specs.Told.{TellsAll}
use Rattle.phase_claims.specs.declared.view.Scope.{Scope}
use Rattle.phase_claims.specs.declared.view.View.{View}
use Rattle.phase_claims.proofs.Told.{posting_tells}
use Rattle.phase_claims.specs.Scopes.{scope_of}
use Rattle.phase_claims.proofs.PlacesPosting.{in_horizon, posting_brings, posting_has, sound_here}
use Rattle.phase_claims.proofs.floor.Floor.do_posting.Goals as goal

pub post_held-requires-clause-sound : goal.post_held-requires-clause-sound
post_held-requires-clause-sound g c =
    sound_here (scope_of c.self.inside.table.shared.key) c.args.self.now.scope (plan_of c.self.inside.loading) c.self.inside.board.now (ap (λ (f : FloorState). f.scope) c.self.view_is) c.self.invariant.plan c.self.invariant.board c.self.invariant.sound
    c.args.number c.self.inside.units.nodes c.step_of-step.result c.requires.number c.self.invariant.nodes c.step_of-step.ensures c.requires.kind

pub post_held-requires-clause-step : goal.post_held-requires-clause-step
post_held-requires-clause-step g c =
    in_horizon (scope_of c.self.inside.table.shared.key) c.args.self.now.scope (plan_of c.self.inside.loading) c.self.inside.board.now (ap (λ (f : FloorState). f.scope) c.self.view_is) c.self.invariant.plan c.self.invariant.board c.self.invariant.sound
    c.args.number c.self.inside.units.nodes c.step_of-step.result c.requires.number c.self.invariant.nodes c.step_of-step.ensures c.requires.kind

pub post_held-requires-clause-held : goal.post_held-requires-clause-held
post_held-requires-clause-held g c =
    posting_has (scope_of c.self.inside.table.shared.key) c.args.self.now.scope (plan_of c.self.inside.loading) c.self.inside.board.now (ap (λ (f : FloorState). f.scope) c.self.view_is) c.self.invariant.plan c.self.invariant.board c.self.invariant.sound
    c.args.number c.self.inside.units.nodes c.step_of-step.result c.requires.number c.self.invariant.nodes c.step_of-step.ensures c.requires.kind c.args.seat.now.me.1 c.requires.held

pub returns-clause-done : goal.returns-clause-done
returns-clause-done g c =
    posting_brings (scope_of c.self.inside.table.shared.key) c.args.self.now.scope (plan_of c.self.inside.loading) c.self.inside.board.now (ap (λ (f : FloorState). f.scope) c.self.view_is) c.self.invariant.plan c.self.invariant.board c.self.invariant.sound
    c.args.number c.self.inside.units.nodes c.step_of-step.result c.requires.number c.self.invariant.nodes c.step_of-step.ensures c.requires.kind c.post_held.new.seat.me.1 c.post_held.ensures.held

pub returns-clause-told : goal.returns-clause-told
returns-clause-told g c =
    let v : View = c.args.seat.now.me.0 in
    let sound : IsSound v.scope.plan = subst (λ (k : Scope). IsSound k.plan) (ap (λ (f : FloorState). f.scope) c.self.view_is ∙ sym c.requires.scope) c.self.invariant.sound in
    let task = posting_kind (task_of (node_count v.scope.plan) v.at) (ap (λ u. kind_at v.scope.plan u) (sym c.requires.at) ∙ ap (λ (k : Scope). kind_at k.plan c.args.number) c.requires.scope ∙ c.requires.kind) in
    subst (λ (u : View). TellsAll u.scope.plan u.at u.told) (sym c.post_held.ensures.seat.view) (posting_tells v.scope.plan sound v.at v.told task)
