use Rattle.std.proofs.Common.{◌≤◌, ap, arith, inl, inr, subst, sym, ◌∙◌}
use Rattle.dta_model.specs.Lent.{plan_of}
use Rattle.dta_model.specs.Units.{node_count, step_of}
use Rattle.dta_model.specs.declared.plan.Plan.{Plan}
use Rattle.phase_claims.specs.Passes.{FloorState}
use Rattle.phase_claims.specs.Told.{AreAmong}
use Rattle.phase_claims.specs.declared.view.View.{View}
use Rattle.phase_claims.proofs.PlacesTold.{half_brings, half_has, half_has_here, half_may, half_may_here, half_told, node_inside, rest_brings, same, step_now}
use Rattle.phase_claims.proofs.Told.{never_both, same_told, told_so}
use Rattle.phase_claims.proofs.floor.Floor.do_half.Goals as goal

pub rests-requires-clause-words : goal.rests-requires-clause-words
rests-requires-clause-words c =
    node_inside _ _ c.args.seat.now.me.0 _ (ap (λ (f : FloorState). f.scope) c.self.view_is) c.requires.scope c.self.invariant.plan c.self.invariant.sound c.requires.inside _ c.requires.unit _ c.self.invariant.words

pub rests-requires-clause-scope : goal.rests-requires-clause-scope
rests-requires-clause-scope c =
    c.requires.scope ∙ sym (ap (λ (f : FloorState). f.scope) c.self.view_is)

pub rests-requires-clause-step : goal.rests-requires-clause-step
rests-requires-clause-step c =
    half_may _ _ c.args.seat.now.me.0 _ (ap (λ (f : FloorState). f.scope) c.self.view_is) c.requires.scope c.self.invariant.plan c.self.invariant.sound c.requires.inside _ c.requires.unit

pub rests-requires-clause-held : goal.rests-requires-clause-held
rests-requires-clause-held c =
    half_has _ _ c.args.seat.now.me.0 _ (ap (λ (f : FloorState). f.scope) c.self.view_is) c.requires.scope c.self.invariant.plan c.self.invariant.sound c.requires.inside _ c.requires.unit
    c.args.seat.now.me.1 c.requires.held

pub returns-then-rests-clause-seat : goal.returns-then-rests-clause-seat
returns-then-rests-clause-seat c =
    same_told _ _ c.rests.ensures.seat

pub returns-then-rests-clause-told : goal.returns-then-rests-clause-told
returns-then-rests-clause-told c =
    half_told _ _ c.args.seat.now.me.0 _ (ap (λ (f : FloorState). f.scope) c.self.view_is) c.requires.scope c.self.invariant.plan c.self.invariant.sound c.requires.inside _ c.requires.unit
    c.rests.new.seat.me.0 (same_told c.args.seat.now c.rests.new.seat c.rests.ensures.seat).view (λ now. inl ((c.rests.ensures.rests c.if-rests.true).idle now))

pub returns-then-rests-clause-done : goal.returns-then-rests-clause-done
returns-then-rests-clause-done c =
    rest_brings _ _ c.args.seat.now.me.0 _ (ap (λ (f : FloorState). f.scope) c.self.view_is) c.requires.scope c.self.invariant.plan c.self.invariant.sound c.requires.inside _ c.requires.unit
    c.rests.new.seat.me.0 (same_told c.args.seat.now c.rests.new.seat c.rests.ensures.seat).view (c.rests.ensures.rests c.if-rests.true) c.rests.new.seat.me.1 (c.rests.ensures.held ∙ c.requires.held)

pub work_held-requires-clause-step : goal.work_held-requires-clause-step
work_held-requires-clause-step c =
    half_may_here _ _ c.args.seat.now.me.0 _ (ap (λ (f : FloorState). f.scope) c.self.view_is) c.requires.scope c.self.invariant.plan c.self.invariant.sound c.requires.inside _ c.requires.unit

pub work_held-requires-clause-held : goal.work_held-requires-clause-held
work_held-requires-clause-held c =
    half_has_here _ _ c.args.seat.now.me.0 _ (ap (λ (f : FloorState). f.scope) c.self.view_is) c.requires.scope c.self.invariant.plan c.self.invariant.sound c.requires.inside _ c.requires.unit
    c.rests.new.seat.me.1 (c.rests.ensures.held ∙ c.requires.held)

pub tell_all-requires-clause-words : goal.tell_all-requires-clause-words
tell_all-requires-clause-words c =
    omega (arith, c.self.invariant.words, ap (λ (x : Plan). node_count x) c.self.invariant.plan)

pub tell_all-requires-clause-plan : goal.tell_all-requires-clause-plan
tell_all-requires-clause-plan c =
    let now = c.work_held.ensures.seat.view ∙ c.rests.ensures.seat.view in
    same _ _ c.args.seat.now.me.0 _ (ap (λ (f : FloorState). f.scope) c.self.view_is) c.requires.scope c.self.invariant.plan c.self.invariant.sound c.requires.inside _ c.requires.unit
    ∙ ap (λ (u : View). u.scope.plan) (sym now)

pub tell_all-requires-clause-weight : goal.tell_all-requires-clause-weight
tell_all-requires-clause-weight c =
    let now = c.work_held.ensures.seat.view ∙ c.rests.ensures.seat.view in
    subst (λ (u : View). 1 ≤ u.weight) (sym now) c.requires.weight

pub tell_all-requires-clause-step : goal.tell_all-requires-clause-step
tell_all-requires-clause-step c =
    half_may_here _ _ c.args.seat.now.me.0 _ (ap (λ (f : FloorState). f.scope) c.self.view_is) c.requires.scope c.self.invariant.plan c.self.invariant.sound c.requires.inside _ c.requires.unit

pub tell_all-requires-clause-now : goal.tell_all-requires-clause-now
tell_all-requires-clause-now c =
    let now = c.work_held.ensures.seat.view ∙ c.rests.ensures.seat.view in
    step_now _ _ c.args.seat.now.me.0 _ (ap (λ (f : FloorState). f.scope) c.self.view_is) c.requires.scope c.self.invariant.plan c.self.invariant.sound c.requires.inside _ c.requires.unit
    ∙ ap (λ (u : View). step_of (node_count (plan_of c.self.inside.loading)) u.at) (sym now)

pub returns-in-Transfer-clause-seat : goal.returns-in-Transfer-clause-seat
returns-in-Transfer-clause-seat c =
    told_so c.args.seat.now c.work_held.new.seat c.tell_all.new.seat
    (told_so c.args.seat.now c.rests.new.seat c.work_held.new.seat (same_told c.args.seat.now c.rests.new.seat c.rests.ensures.seat) (same_told c.rests.new.seat c.work_held.new.seat c.work_held.ensures.seat)) c.tell_all.ensures.seat

pub returns-in-Transfer-clause-told : goal.returns-in-Transfer-clause-told
returns-in-Transfer-clause-told c =
    half_told _ _ c.args.seat.now.me.0 _ (ap (λ (f : FloorState). f.scope) c.self.view_is) c.requires.scope c.self.invariant.plan c.self.invariant.sound c.requires.inside _ c.requires.unit
    c.tell_all.new.seat.me.0 (told_so c.args.seat.now c.work_held.new.seat c.tell_all.new.seat
    (told_so c.args.seat.now c.rests.new.seat c.work_held.new.seat (same_told c.args.seat.now c.rests.new.seat c.rests.ensures.seat) (same_told c.rests.new.seat c.work_held.new.seat c.work_held.ensures.seat)) c.tell_all.ensures.seat).view
    (λ now. inr (subst (λ (x : Plan). AreAmong x c.args.half.node.0 c.args.half.step c.tell_all.new.seat.me.0.told) (same _ _ c.args.seat.now.me.0 _ (ap (λ (f : FloorState). f.scope) c.self.view_is) c.requires.scope c.self.invariant.plan c.self.invariant.sound c.requires.inside _ c.requires.unit) c.tell_all.ensures.told))

pub returns-in-Transfer-clause-done : goal.returns-in-Transfer-clause-done
returns-in-Transfer-clause-done c =
    half_brings _ _ c.args.seat.now.me.0 _ (ap (λ (f : FloorState). f.scope) c.self.view_is) c.requires.scope c.self.invariant.plan c.self.invariant.sound c.requires.inside _ c.requires.unit
    c.tell_all.new.seat.me.0 (told_so c.args.seat.now c.work_held.new.seat c.tell_all.new.seat
    (told_so c.args.seat.now c.rests.new.seat c.work_held.new.seat (same_told c.args.seat.now c.rests.new.seat c.rests.ensures.seat) (same_told c.rests.new.seat c.work_held.new.seat c.work_held.ensures.seat)) c.tell_all.ensures.seat).view c.tell_all.new.seat.me.1 (c.tell_all.ensures.held ∙ c.work_held.ensures.held)

pub returns-in-Gather-clause-seat : goal.returns-in-Gather-clause-seat
returns-in-Gather-clause-seat c =
    told_so c.args.seat.now c.rests.new.seat c.work_held.new.seat (same_told c.args.seat.now c.rests.new.seat c.rests.ensures.seat) (same_told c.rests.new.seat c.work_held.new.seat c.work_held.ensures.seat)

pub returns-in-Gather-clause-told : goal.returns-in-Gather-clause-told
returns-in-Gather-clause-told c =
    half_told _ _ c.args.seat.now.me.0 _ (ap (λ (f : FloorState). f.scope) c.self.view_is) c.requires.scope c.self.invariant.plan c.self.invariant.sound c.requires.inside _ c.requires.unit
    c.work_held.new.seat.me.0 (told_so c.args.seat.now c.rests.new.seat c.work_held.new.seat (same_told c.args.seat.now c.rests.new.seat c.rests.ensures.seat) (same_told c.rests.new.seat c.work_held.new.seat c.work_held.ensures.seat)).view (λ now. never_both c.args.half.half c.in-Gather.is now)

pub returns-in-Gather-clause-done : goal.returns-in-Gather-clause-done
returns-in-Gather-clause-done c =
    half_brings _ _ c.args.seat.now.me.0 _ (ap (λ (f : FloorState). f.scope) c.self.view_is) c.requires.scope c.self.invariant.plan c.self.invariant.sound c.requires.inside _ c.requires.unit
    c.work_held.new.seat.me.0 (told_so c.args.seat.now c.rests.new.seat c.work_held.new.seat (same_told c.args.seat.now c.rests.new.seat c.rests.ensures.seat) (same_told c.rests.new.seat c.work_held.new.seat c.work_held.ensures.seat)).view c.work_held.new.seat.me.1 c.work_held.ensures.held
