use Rattle.std.proofs.Common.{arith, refl, ap}
use Rattle.dta_model.specs.Lent.{plan_of}
use Rattle.phase_claims.specs.declared.view.Scope.{Scope}
use Rattle.phase_claims.specs.declared.view.View.{View}
use Rattle.loader.proofs.Loadings.{all-put, has-closed, load-cut, load-done, took-receipt}
use Rattle.loader.proofs.loading.load.Goals as goal

pub returns-in-Ok-end : goal.returns-in-Ok-end
returns-in-Ok-end g c =
    let p = plan_of c.args.loading.now in
    let spare = ap (λ (v : View). v.spare) c.in_ok-floor.ensures.pass in
    let weight = c.perform_all-pass.ensures.ended.weight in
    let least = c.requires.least in
    let plan_is = ap (λ (k : Scope). k.plan) c.in_ok-floor.ensures.floor in
    let closed = has-closed p c.args.workers c.in_ok-floor.floor.scope c.perform_all-pass.result.view c.in-Ok.loaded c.in-Ok.writer
    c.in-Ok.receipt plan_is c.in-Ok.ensures.closed (omega (arith, spare, weight, least)) in
    load-done p c.args.workers c.args.watch c.in-Ok-end.field-0 _ _ _ _ c.in-Ok.loaded closed.loaded
    (all-put p c.args.watch _
    c.perform_all-pass.new.watcher c.in-Ok.writer.list _ _ _ _ refl refl refl c.perform_all-pass.ensures.same
    c.perform_all-pass.ensures.put c.in-Ok-end.ensures.put c.requires.sound.horizon_least closed.posted)
    (took-receipt _ _ c.in-Ok.receipt _ c.closed.ensures.closes c.closed.ensures.last closed.numbers)

pub returns : goal.returns
returns g c =
    let p = plan_of c.args.loading.now in
    let spare = ap (λ (v : View). v.spare) c.in_ok-floor.ensures.pass in
    let weight = c.perform_all-pass.ensures.ended.weight in
    let least = c.requires.least in
    let plan_is = ap (λ (k : Scope). k.plan) c.in_ok-floor.ensures.floor in
    let closed = has-closed p c.args.workers c.in_ok-floor.floor.scope c.perform_all-pass.result.view c.in-Ok.loaded c.in-Ok.writer
    c.in-Ok.receipt plan_is c.in-Ok.ensures.closed (omega (arith, spare, weight, least)) in
    load-cut p c.args.workers c.args.watch c.in-Err.field-0 _ _ _ _
    (all-put p c.args.watch _
    c.perform_all-pass.new.watcher c.in-Ok.writer.list _ _ _ _ refl refl refl c.perform_all-pass.ensures.same
    c.perform_all-pass.ensures.put c.in-Err.ensures.put c.requires.sound.horizon_least closed.posted)
    (took-receipt _ _ c.in-Ok.receipt _ c.closed.ensures.closes c.closed.ensures.last closed.numbers)
