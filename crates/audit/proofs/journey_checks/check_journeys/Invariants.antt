use Rattle.std.specs.List.{zip}
use Rattle.audit.specs.Audit.{journey_checks_at}
use Rattle.audit.proofs.Verdicts.{IsLeft}
use Rattle.audit.proofs.journey_checks.check_journeys.Given as goal

abbrev pub invariant-loop-r : goal.invariant-loop-r
invariant-loop-r l = IsLeft journey_checks_at (zip l.agents l.journeys) l.r
