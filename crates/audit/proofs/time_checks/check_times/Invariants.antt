use Rattle.audit.specs.Audit.{time_checks}
use Rattle.audit.proofs.Verdicts.{IsLeft}
use Rattle.audit.proofs.time_checks.check_times.Given as goal

abbrev pub invariant-loop-r : goal.invariant-loop-r
invariant-loop-r l = IsLeft (time_checks l.times) l.rows l.r
