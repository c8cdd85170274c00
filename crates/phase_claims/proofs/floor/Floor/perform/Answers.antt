use Rattle.std.proofs.Common.{ℕ, ◌<◌, ◌≤◌, ap, refl, sym, ◌∙◌, subst}
use Rattle.claim_core.specs.Kinds.{half_by}
use Rattle.dta_model.specs.Units.{node_count, step_of, task_of, unit_count}
use Rattle.phase_claims.specs.Passes.{FloorState, IsInside, IsOpen, PassState, PerformsNext}
use Rattle.phase_claims.specs.PlacesHome.{carried}
use Rattle.phase_claims.specs.declared.view.Scope.{Scope}
use Rattle.phase_claims.specs.declared.view.View.{View}
use Rattle.phase_claims.proofs.Owners.{few_here, next_pass, next_told, same_place}
use Rattle.phase_claims.proofs.floor.Floor.perform.Goals as goal

pub do_half-requires-clause-scope : goal.do_half-requires-clause-scope
do_half-requires-clause-scope c = ap (λ (x : PassState). x.view.scope) c.pass.view_is ∙ c.requires.own.scope

pub do_half-requires-clause-open : goal.do_half-requires-clause-open
do_half-requires-clause-open c = subst (λ (p : PassState). IsOpen p.view.stage) (sym c.pass.view_is) c.requires.open

pub do_half-requires-clause-inside : goal.do_half-requires-clause-inside
do_half-requires-clause-inside c =
    let v : View = c.pass.inside.seat.me.0 in
    let opened = subst (λ (p : PassState). IsOpen p.view.stage) (sym c.pass.view_is) c.requires.open in
    subst (λ (u : ℕ). u < unit_count v.scope.plan) c.pass.invariant.place.next (few_here v v.scope c.pass.inside.place refl c.pass.invariant.place opened c.pass.invariant.inside)

pub do_half-requires-clause-unit : goal.do_half-requires-clause-unit
do_half-requires-clause-unit c =
    let v : View = c.pass.inside.seat.me.0 in
    let scope = ap (λ (x : PassState). x.view.scope) c.pass.view_is ∙ c.requires.own.scope in
    let nodes = c.self.invariant.nodes ∙ ap (λ (f : FloorState). node_count f.scope.plan) c.self.view_is ∙ ap (λ (k : Scope). node_count k.plan) (sym scope) in
    ap (λ u. half_by (step_of (node_count v.scope.plan) u) (task_of (node_count v.scope.plan) u)) (sym c.pass.invariant.place.next)
    ∙ ap (λ n. half_by (step_of n c.pass.inside.place.next) (task_of n c.pass.inside.place.next)) (sym nodes)
    ∙ sym c.half_in.ensures ∙ c.in-Some.is

pub do_half-requires-clause-held : goal.do_half-requires-clause-held
do_half-requires-clause-held c =
    let v : View = c.pass.inside.seat.me.0 in
    let opened = subst (λ (p : PassState). IsOpen p.view.stage) (sym c.pass.view_is) c.requires.open in
    c.pass.invariant.slots ∙ ap (λ s. carried v.scope s v.at) opened

pub go_on-requires-clause-scope : goal.go_on-requires-clause-scope
go_on-requires-clause-scope c =
    ap (λ (v : View). v.scope) c.do_half.ensures.seat.view ∙ ap (λ (x : PassState). x.view.scope) c.pass.view_is ∙ c.requires.own.scope

pub go_on-requires-clause-open : goal.go_on-requires-clause-open
go_on-requires-clause-open c =
    subst (λ (v : View). IsOpen v.stage) (sym c.do_half.ensures.seat.view) (subst (λ (p : PassState). IsOpen p.view.stage) (sym c.pass.view_is) c.requires.open)

pub go_on-requires-clause-inside : goal.go_on-requires-clause-inside
go_on-requires-clause-inside c = subst (λ (v : View). IsInside v.scope.plan v.stage v.at) (sym c.do_half.ensures.seat.view) c.pass.invariant.inside

pub go_on-requires-clause-weight : goal.go_on-requires-clause-weight
go_on-requires-clause-weight c = subst (λ (v : View). 1 ≤ v.weight) (sym c.do_half.ensures.seat.view) c.pass.invariant.weight

pub go_on-requires-clause-place : goal.go_on-requires-clause-place
go_on-requires-clause-place c = same_place c.pass.inside.seat.me.0 c.do_half.new.seat.me.0 c.do_half.ensures.seat.view c.pass.inside.place c.pass.invariant.place

pub invariant_of-pass : goal.invariant_of-pass
invariant_of-pass c =
    next_pass c.pass.inside.seat.me c.go_on.new.seat.me _ _ _ c.pass.invariant (next_told c.pass.inside.seat.me.0 c.do_half.new.seat.me.0 c.go_on.new.seat.me.0 c.do_half.ensures.seat.view c.go_on.ensures.next) c.go_on.ensures.slots c.go_on.ensures.place

pub returns-clause-done : goal.returns-clause-done
returns-clause-done c =
    subst (λ (p : PassState). PerformsNext p.view c.go_on.new.seat.me.0) c.pass.view_is (next_told c.pass.inside.seat.me.0 c.do_half.new.seat.me.0 c.go_on.new.seat.me.0 c.do_half.ensures.seat.view c.go_on.ensures.next)
