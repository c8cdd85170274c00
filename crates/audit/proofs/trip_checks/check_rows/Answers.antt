use Rattle.std.proofs.Common.{Ok, ap, subst}
use Rattle.audit.specs.Audit.{all_trip_checks, trip_checks, trip_checks_at}
use Rattle.audit.specs.Checks.{IsVerdict}
use Rattle.audit.proofs.Routed.{looked_up, routes_more}
use Rattle.audit.proofs.Verdicts.{row_fails, row_holds}
use Rattle.audit.proofs.trip_checks.check_rows.Goals as goal

pub returns-in-No-clause-verdict : goal.returns-in-No-clause-verdict
unfolding all_trip_checks
returns-in-No-clause-verdict c =
    let net = c.args.net.now in
    let trips = c.args.trips.now in
    let agents = c.args.agents.now in
    let r = c.loop-r.r in
    let row = c.index-agents-r.result in
    row_fails (trip_checks_at net trips) agents r row c.in_ok-verdict.verdict c.in-No.table c.in-No.line c.in-No.column c.loop-r-test.true c.index-agents-r.is c.in-No.is
    (subst (λ o. IsVerdict (trip_checks net r o row) c.in_ok-verdict.verdict) (looked_up c.get.result trips r c.get.ensures.lookup.0 c.get.ensures.lookup.1) (rw (← c.in_ok-index.ensures) c.in_ok-verdict.ensures.verdict))
    c.loop-r.invariant.checks

pub loop-r-preserved : goal.loop-r-preserved
loop-r-preserved c =
    let net = c.args.net.now in
    let trips = c.args.trips.now in
    let agents = c.args.agents.now in
    let r = c.loop-r.r in
    let row = c.index-agents-r.result in
    record {
      checks =
          row_holds (trip_checks_at net trips) agents r row c.in_ok-verdict.verdict c.loop-r-test.true c.index-agents-r.is c.in-Yes.is
          (subst (λ o. IsVerdict (trip_checks net r o row) c.in_ok-verdict.verdict) (looked_up c.get.result trips r c.get.ensures.lookup.0 c.get.ensures.lookup.1) (rw (← c.in_ok-index.ensures) c.in_ok-verdict.ensures.verdict))
          c.loop-r.invariant.checks;
      routes =
          routes_more net agents r row c.loop-r.routes.items c.check_row.new.routes.items c.loop-r-test.true c.index-agents-r.is c.loop-r.invariant.routes
          (rw (← c.in_ok-index.ensures) (c.in_ok-verdict.ensures.route (ap Ok c.in-Yes.is)));
    }
