use Rattle.std.proofs.Common.{◌∙◌, arith, sym}
use Rattle.gmns_tables.proofs.StepsFacts.{step_above, step_far, step_near}
use Rattle.gmns_tables.proofs.windows.step.Goals as goal

pub returns-in-Ok-clause-step : goal.returns-in-Ok-clause-step
returns-in-Ok-clause-step c = step_near c.args.digits.now c.in-Ok.step c.requires (sym c.in-Ok.is ∙ c.whole.ensures.value) (omega arith)

pub returns-in_default-clause-step : goal.returns-in_default-clause-step
returns-in_default-clause-step c = step_far c.args.digits.now c.in-Ok.step c.requires (sym c.in-Ok.is ∙ c.whole.ensures.value) (omega arith)

pub returns-in_default-2-clause-step : goal.returns-in_default-2-clause-step
returns-in_default-2-clause-step c = step_above c.args.digits.now c.in_default.field-0 c.requires (sym c.in_default.is ∙ c.whole.ensures.value)
