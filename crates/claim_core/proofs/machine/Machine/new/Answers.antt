use Rattle.std.proofs.Common.{arith, ◌∙◌}
use Rattle.dta_model.specs.Lent.{plan_of}
use Rattle.claim_core.proofs.AtStart.{starts_machine}
use Rattle.claim_core.proofs.machine.Machine.new.Goals as goal

pub invariant_of-result : goal.invariant_of-result
invariant_of-result c =
    let fits = c.ranges.workers.fits in
    starts_machine (plan_of c.args.loading.now) c.args.workers c.requires.sound (omega (arith, fits)) c.in_ok-workers.workers c.into_vec.result.items c.into_vec-2.result.items
    c.in_ok-workers.ensures (c.into_vec.ensures ∙ c.in_ok-start.ensures.cells) (c.into_vec-2.ensures ∙ c.in_ok-start.ensures.mail)

pub returns-clause-parts : goal.returns-clause-parts
returns-clause-parts c =
    let fits = c.ranges.workers.fits in
    (starts_machine (plan_of c.args.loading.now) c.args.workers c.requires.sound (omega (arith, fits)) c.in_ok-workers.workers c.into_vec.result.items c.into_vec-2.result.items
    c.in_ok-workers.ensures (c.into_vec.ensures ∙ c.in_ok-start.ensures.cells) (c.into_vec-2.ensures ∙ c.in_ok-start.ensures.mail)).parts
