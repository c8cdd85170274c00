use Rattle.std.proofs.Common.{◌≡◌, ℕ, ◌∙◌, ap, refl, subst, sym, arith}
use Rattle.atomic_table.specs.Table.{Me}
use Rattle.claim_core.proofs.Working.{half_is, half_task}
use Rattle.dta_model.specs.Sound.{IsSound}
use Rattle.dta_model.specs.Units.{node_count, step_of, task_of}
use Rattle.node_transfer.specs.Rest.{NobodyComes}
use Rattle.phase_claims.specs.PlacesHeld.{HoldsCell}
use Rattle.phase_claims.specs.Told.{KeepsRooms}
use Rattle.phase_claims.specs.declared.part.Part.{Part}
use Rattle.phase_claims.specs.declared.view.Scope.{Scope}
use Rattle.phase_claims.specs.declared.view.View.{View}
use Rattle.phase_claims.proofs.Allowed.{sees_allowed}
use Rattle.phase_claims.proofs.Stays.{gather_rests}
use Rattle.phase_claims.proofs.work_told.gather_rests.Goals as goal

pub load-told-requires : goal.load-told-requires
load-told-requires c = (
  c.requires.table,
  c.requires.words,
  sees_allowed _ _ _ _ _ c.requires.open c.requires.weight (subst (λ (k : Scope). IsSound k.plan) c.requires.scope c.requires.step.sound) (omega arith),
)

pub is_quiet-requires-clause-held : goal.is_quiet-requires-clause-held
is_quiet-requires-clause-held c = subst (HoldsCell c.args.half.node.0) (sym (ap (λ (m : Me Part View). m.1) c.load-told.ensures.2.0)) c.requires.held

pub returns-clause-rests : goal.returns-clause-rests
returns-clause-rests c quiet =
    let v : View = c.args.seat.now.me.0 in
    let p = v.scope.plan in
    let h = c.args.half in
    let unit = half_is (step_of (node_count p) v.at) (task_of (node_count p) v.at) h c.requires.unit in
    let now : step_of (node_count p) v.at ≡ h.step = sym unit.1 in
    let still = c.load-told.ensures.2.1 h.node.0 refl (unit.0 ∙ ap (λ x. half_task x h.node.0) c.requires.gather) (omega (arith, c.if-told-half.false, now)) in
    gather_rests p h.half h.node h.step c.requires.gather c.requires.step
    (subst (λ (t : ℕ). KeepsRooms p h.node.0 t) now still.0) (subst (λ (t : ℕ). NobodyComes p h.node.0 t) now still.1)
