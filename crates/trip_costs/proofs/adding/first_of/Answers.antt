use Rattle.std.proofs.Common.{◌∙◌, ap}
use Rattle.std.specs.Prelude.{slice_get}
use Rattle.dta_model.specs.Lent.{plan_of}
use Rattle.trip_costs.proofs.Waits.{first_in, first_inside, first_none}
use Rattle.trip_costs.proofs.adding.first_of.Goals as goal

pub returns-in-Some-clause-first : goal.returns-in-Some-clause-first
returns-in-Some-clause-first c =
    first_in (plan_of c.args.loading.now) c.args.vehicle c.in-Some.route.now c.copied.result c.in-Some.ensures
    (c.copied.ensures ∙ c.first.ensures.value ∙ ap (λ xs. slice_get xs 0) c.as_slice.ensures)

pub returns-in-Some-clause-inside : goal.returns-in-Some-clause-inside
returns-in-Some-clause-inside c =
    first_inside (plan_of c.args.loading.now) c.requires.sound c.args.vehicle c.in-Some.route.now c.copied.result c.requires.vehicle c.in-Some.ensures
    (c.copied.ensures ∙ c.first.ensures.value ∙ ap (λ xs. slice_get xs 0) c.as_slice.ensures)

pub returns-in-None-clause-first : goal.returns-in-None-clause-first
returns-in-None-clause-first c = first_none (plan_of c.args.loading.now) c.args.vehicle c.in-None.ensures
