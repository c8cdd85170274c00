use Rattle.std.proofs.Common.{◌≡◌, take}
use Rattle.audit.specs.Audit.{routes_named, trip_checks_at}
use Rattle.audit.proofs.Verdicts.{IsLeft}
use Rattle.audit.proofs.trip_checks.check_rows.Given as goal

abbrev pub invariant-loop-r : goal.invariant-loop-r
invariant-loop-r l = record {
  checks : IsLeft (trip_checks_at l.net l.trips) l.agents l.r;
  routes : l.routes.items ≡ routes_named l.net (take l.r l.agents);
}
