use Rattle.std.proofs.Common.{◌≡◌, ◌≤◌, length, arith}
use Rattle.fixed_units.proofs.Leads.{leads-alone, leads-few}
use Rattle.fixed_units.proofs.Splits.{joined-whole}
use Rattle.fixed_units.proofs.exponent.three_digits.Goals as goal

pub returns-clause-value : goal.returns-clause-value
returns-clause-value c =
    let few : length c.walk-run.result.digits.now ≤ 3 = omega arith in
    let read = leads-few _ _ _ c.walk-run.ensures.digits few (leads-alone _ _ (c.walk-run.ensures.leading 0 c.none.ensures.leading)) in
    let none : length c.walk-run.result.rest.now ≡ 0 = grind arith in
    let whole : c.args.text.now ≡ c.walk-run.result.digits.now
    = joined-whole c.args.text.now c.walk-run.result.digits.now c.walk-run.result.rest.now c.walk-run.ensures.joined none in
    rw whole (grind (arith, read.0))

pub returns-clause-small : goal.returns-clause-small
returns-clause-small c =
    let few : length c.walk-run.result.digits.now ≤ 3 = omega arith in
    let read = leads-few _ _ _ c.walk-run.ensures.digits few (leads-alone _ _ (c.walk-run.ensures.leading 0 c.none.ensures.leading)) in
    omega (arith, read.0, read.1)
