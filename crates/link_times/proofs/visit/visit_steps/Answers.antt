use Rattle.std.proofs.Common.{◌+◌, arith}
use Rattle.dta_model.specs.Lent.{plan_of}
use Rattle.link_times.proofs.Steps.{free_least, left_is, onto_at, out_is, row_short}
use Rattle.link_times.proofs.visit.visit_steps.Goals as goal

pub returns-then-place-entries-clause-time : goal.returns-then-place-entries-clause-time
returns-then-place-entries-clause-time c = (onto_at (plan_of c.args.loading.now) c.args.vehicle c.args.route.now c.args.entries.now c.args.arrival c.args.place c.requires.gone c.penalty.result (c.args.place + 1) _ _ (omega arith) c.if-place-entries.true c.penalty.ensures).0

pub returns-then-place-entries-clause-least : goal.returns-then-place-entries-clause-least
returns-then-place-entries-clause-least c = (onto_at (plan_of c.args.loading.now) c.args.vehicle c.args.route.now c.args.entries.now c.args.arrival c.args.place c.requires.gone c.penalty.result (c.args.place + 1) _ _ (omega arith) c.if-place-entries.true c.penalty.ensures).1 (free_least (plan_of c.args.loading.now) c.requires.sound _)

pub returns-in-Some-clause-time : goal.returns-in-Some-clause-time
returns-in-Some-clause-time c = (out_is (plan_of c.args.loading.now) c.args.vehicle c.args.route.now c.args.entries.now c.args.arrival c.args.place c.requires.gone c.in-Some.step c.requires.place (let h = c.if-place-entries.false in omega (arith, h)) c.in-Some.is).0

pub returns-in-Some-clause-least : goal.returns-in-Some-clause-least
returns-in-Some-clause-least c = (out_is (plan_of c.args.loading.now) c.args.vehicle c.args.route.now c.args.entries.now c.args.arrival c.args.place c.requires.gone c.in-Some.step c.requires.place (let h = c.if-place-entries.false in omega (arith, h)) c.in-Some.is).1 (free_least (plan_of c.args.loading.now) c.requires.sound _)

pub returns-in-None-clause-time : goal.returns-in-None-clause-time
returns-in-None-clause-time c = left_is (plan_of c.args.loading.now) c.args.vehicle c.args.route.now c.args.entries.now c.args.arrival c.args.place c.requires.gone c.link.result _ c.max.result c.requires.place (let h = c.if-place-entries.false in omega (arith, h)) c.in-None.is c.link.ensures c.max.ensures

pub returns-in-None-clause-most : goal.returns-in-None-clause-most
returns-in-None-clause-most c =
    let a = c.max.ensures in
    let b = row_short (plan_of c.args.loading.now) _ c.link.result c.requires.sound c.link.ensures in
    let e = c.requires.sound.horizon_most in
    omega (arith, a, b, e)
