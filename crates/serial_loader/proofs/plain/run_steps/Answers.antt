use Rattle.std.proofs.Common.{◌≡◌, ◌∙◌, ap, arith}
use Rattle.dta_model.specs.Lent.{plan_of}
use Rattle.serial_loader.specs.Phases.{cells_before}
use Rattle.serial_loader.proofs.Ends.{all-before}
use Rattle.serial_loader.proofs.plain.run_steps.Goals as goal

pub returns : goal.returns
returns c =
    let p = plan_of c.args.loading.now in
    let past = c.loop-step-test.false in
    let end = c.loop-step.auto.step-end in
    let same : c.loop-step.step ≡ c.args.loading.now.horizon = omega (arith, past, end) in
    all-before p c.loop-step.step c.loop-step.cells c.loop-step.wakes c.loop-step.mail c.loop-step.invariant ∙ ap (cells_before p) same
