use Rattle.fixed_units.proofs.Leads.{leads-alone}
use Rattle.fixed_units.proofs.Numbers.{number-append}
use Rattle.fixed_units.proofs.decimal.read_decimal.Goals as goal

pub returns-in-Some-eq46-default-clause-leading : goal.returns-in-Some-eq46-default-clause-leading
returns-in-Some-eq46-default-clause-leading c =
    rw (number-append c.walk-whole.result.digits.now c.walk-fraction.result.digits.now)
    (c.walk-fraction.ensures.leading _ (leads-alone _ _ (c.walk-whole.ensures.leading 0 c.none.ensures.leading)))
