use Rattle.std.proofs.Common.{◌≤◌, ◌*◌, arith}
use Rattle.fixed_units.specs.declared.leading.TheConstants.{ENOUGH}
use Rattle.fixed_units.specs.Quantity.{number}
use Rattle.fixed_units.proofs.Leads.{leads-alone, leads-many}
use Rattle.fixed_units.proofs.Splits.{is_identifier-joined, whole_part-joined}
use Rattle.fixed_units.proofs.identifier.unsigned_whole.Goals as goal

pub returns-then-run-gt0 : goal.returns-then-run-gt0
returns-then-run-gt0 c =
    let many : 10 * ENOUGH ≤ number c.walk-run.result.digits.now
    = leads-many _ _ _ (leads-alone _ _ (c.walk-run.ensures.leading 0 c.none.ensures.leading)) c.if-run-gt0.true in
    grind (arith, is_identifier-joined, whole_part-joined)
