use Rattle.scaled_demand.proofs.LimitFacts.{all-before, told-within}
use Rattle.scaled_demand.proofs.limits.check_scales.Goals as goal

pub returns-clause-ok_within : goal.returns-clause-ok_within
returns-clause-ok_within c =
    all-before c.args.cells.now c.args.scales.now c.loop-scenario.scenario c.loop-scenario-test.false c.loop-scenario.invariant

pub returns-clause-too_many : goal.returns-clause-too_many
returns-clause-too_many c =
    told-within c.args.cells.now c.args.scales.now _
    (all-before c.args.cells.now c.args.scales.now c.loop-scenario.scenario c.loop-scenario-test.false c.loop-scenario.invariant)
    (λ scenario line total e. cc)
