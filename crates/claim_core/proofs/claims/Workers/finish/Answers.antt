use Rattle.std.proofs.Common.{◌≡◌, arith, ap, sym, ◌∙◌}
use Rattle.dta_model.specs.Lent.{plan_of}
use Rattle.dta_model.specs.Machine.{Claims, with_stage}
use Rattle.claim_core.proofs.Effects.{finish_ends, finish_misplaced, has}
use Rattle.claim_core.proofs.Finishing.{at_first, at_last, count_fits, has_open, in_order, is_unit, next_count, unit_moved, unit_ready}
use Rattle.claim_core.proofs.claims.Workers.finish.Goals as goal

pub returns-in_default : goal.returns-in_default
returns-in_default c = record {
  effect = rw (sym c.self.view_is) (finish_misplaced (plan_of c.args.loading.now) _ c.args.worker
      c.index.result.now c.index.ensures c.in_default.not-Open);
  count = c.requires.count;
  parts = c.requires.parts;
}

pub loop-number-init : goal.loop-number-init
loop-number-init c =
    at_first (plan_of c.args.loading.now) c.args.self.now c.in-Open.first _ c.requires.parts

pub do_work-requires-clause-number : goal.do_work-requires-clause-number
do_work-requires-clause-number c =
    let open_units = has_open c.requires.sound c.requires.reached c.self.view_is c.requires.worker
    c.index.ensures c.in-Open.is in
    is_unit open_units c.loop-number.number c.loop-number.auto.number c.loop-number-test.true

pub do_work-requires-clause-ready : goal.do_work-requires-clause-ready
do_work-requires-clause-ready c =
    let open_units = has_open c.requires.sound c.requires.reached c.self.view_is c.requires.worker
    c.index.ensures c.in-Open.is in
    unit_ready open_units c.loop-number.number c.loop-number.auto.number c.loop-number-test.true
    c.loop-number.invariant

pub loop-number-preserved : goal.loop-number-preserved
loop-number-preserved c =
    let open_units = has_open c.requires.sound c.requires.reached c.self.view_is c.requires.worker
    c.index.ensures c.in-Open.is in
    unit_moved open_units c.loop-number.number c.loop-number.auto.number c.loop-number-test.true
    c.loop-number.invariant c.do_work.ensures

pub overflow_sub-finished : goal.overflow_sub-finished
overflow_sub-finished c =
    let open_units = has_open c.requires.sound c.requires.reached c.self.view_is c.requires.worker
    c.index.ensures c.in-Open.is in
    omega (arith, in_order open_units)

pub overflow_add-finished : goal.overflow_add-finished
overflow_add-finished c =
    let open_units = has_open c.requires.sound c.requires.reached c.self.view_is c.requires.worker
    c.index.ensures c.in-Open.is in
    let drawn = ap (λ (s : Claims). s.drawn) c.self.view_is in
    omega (arith, count_fits open_units, c.requires.count, drawn, c.self.invariant)

pub returns-clause-effect : goal.returns-clause-effect
returns-clause-effect c =
    rw (sym c.self.view_is) (finish_ends (plan_of c.args.loading.now)
    (record { drawn = c.self.inside.drawn; stages = c.self.inside.stages.items }) c.args.worker
    c.in-Open.first c.in-Open.middle c.in-Open.end
    (rw (sym c.self.view_is) at (has c.self.view_is c.requires.worker c.index.ensures c.in-Open.is))
    c.left_after.result (c.left_after.ensures c.in-Open.first))

pub returns-clause-count : goal.returns-clause-count
returns-clause-count c =
    let open_units = has_open c.requires.sound c.requires.reached c.self.view_is c.requires.worker
    c.index.ensures c.in-Open.is in
    omega (
      arith,
      c.requires.count,
      next_count open_units
          (ap (λ (s : Claims). with_stage s c.args.worker c.left_after.result) c.self.view_is
          ∙ ap (λ x. with_stage c.args.self.now c.args.worker x) (c.left_after.ensures c.in-Open.first)),
    )

pub returns-clause-parts : goal.returns-clause-parts
returns-clause-parts c =
    let open_units = has_open c.requires.sound c.requires.reached c.self.view_is c.requires.worker
    c.index.ensures c.in-Open.is in
    let end : c.loop-number.number ≡ c.in-Open.middle =
    omega (arith, in_order open_units, c.loop-number-test.false, c.loop-number.auto.number-end) in
    at_last open_units
    (ap (λ (s : Claims). with_stage s c.args.worker c.left_after.result) c.self.view_is
    ∙ ap (λ x. with_stage c.args.self.now c.args.worker x) (c.left_after.ensures c.in-Open.first))
    (rw end at c.loop-number.invariant)
