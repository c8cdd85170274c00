use Rattle.std.proofs.Common.{◌<◌, arith, length}
use Rattle.std.specs.List.{zip}
use Rattle.audit.specs.Audit.{all_journey_checks, journey_checks_at}
use Rattle.audit.proofs.Placed.{pair_is, pairs_many}
use Rattle.audit.proofs.Verdicts.{none_left, row_fails, row_holds}
use Rattle.audit.proofs.journey_checks.check_journeys.Goals as goal

pub returns-in-No : goal.returns-in-No
unfolding all_journey_checks
returns-in-No c =
    let agents = c.args.agents.now in
    let journeys = c.args.journeys.now in
    let r = c.loop-r.r in
    let inside = c.loop-r-test.true in
    let many = pairs_many agents journeys c.requires in
    let here : r < length (zip agents journeys) = omega (arith, inside, many) in
    row_fails journey_checks_at (zip agents journeys) r (c.index-agents-r.result, c.index-journeys-r.result) c.journey_verdict-verdict.result c.in-No.table c.in-No.line c.in-No.column here
    (pair_is agents journeys r c.index-agents-r.result c.index-journeys-r.result c.requires inside c.index-agents-r.is c.index-journeys-r.is)
    c.in-No.is c.journey_verdict-verdict.ensures c.loop-r.invariant

pub loop-r-preserved : goal.loop-r-preserved
loop-r-preserved c =
    let agents = c.args.agents.now in
    let journeys = c.args.journeys.now in
    let r = c.loop-r.r in
    let inside = c.loop-r-test.true in
    let many = pairs_many agents journeys c.requires in
    let here : r < length (zip agents journeys) = omega (arith, inside, many) in
    row_holds journey_checks_at (zip agents journeys) r (c.index-agents-r.result, c.index-journeys-r.result) c.journey_verdict-verdict.result here
    (pair_is agents journeys r c.index-agents-r.result c.index-journeys-r.result c.requires inside c.index-agents-r.is c.index-journeys-r.is)
    c.in-Yes.is c.journey_verdict-verdict.ensures c.loop-r.invariant

pub returns : goal.returns
unfolding all_journey_checks
returns c =
    let agents = c.args.agents.now in
    let journeys = c.args.journeys.now in
    let all = c.loop-r-test.false in
    let many = pairs_many agents journeys c.requires in
    none_left journey_checks_at (zip agents journeys) c.loop-r.r (omega (arith, all, many)) c.loop-r.invariant
