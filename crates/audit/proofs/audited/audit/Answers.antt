use Rattle.std.proofs.Common.{◌∙◌, Ok, ap, length, subst}
use Rattle.std.proofs.lemmas.Result.{IfOk-weaker}
use Rattle.audit.specs.Audit.{IsAudit, routes_named}
use Rattle.audit.specs.Checks.{IsVerdict}
use Rattle.audit.proofs.Routed.{rows_fit}
use Rattle.audit.proofs.Whole.{checks_after, checks_before, fails_before, is_sound, passes_before}
use Rattle.audit.proofs.audited.audit.Goals as goal

pub returns-in-No : goal.returns-in-No
returns-in-No c =
    let net = c.args.net.now in
    let trips = c.args.trips.now in
    fails_before net trips c.args.agents.now c.args.times.now c.args.plan.now c.in_ok-rows.rows c.in-No.table c.in-No.line c.in-No.column c.in-No.is
    (subst (λ agents. IsVerdict (checks_before net trips agents) c.in_ok-rows.rows) c.as_slice-2.ensures c.in_ok-rows.ensures.verdict)

pub check_loading-requires-clause-sound : goal.check_loading-requires-clause-sound
check_loading-requires-clause-sound c =
    let net = c.args.net.now in
    let trips = c.args.trips.now in
    is_sound net trips c.args.agents.now c.args.plan.now c.of-routes.result c.in_ok-rows.rows c.link_count-sound.ensures.sound c.requires.trips c.requires.rising c.requires.early c.requires.plan c.in-Yes.is
    (subst (λ agents. IsVerdict (checks_before net trips agents) c.in_ok-rows.rows) c.as_slice-2.ensures c.in_ok-rows.ensures.verdict)
    (c.of-routes.ensures ∙ c.in_ok-rows.ensures.routes (ap Ok c.in-Yes.is) ∙ ap (λ agents. routes_named net agents) c.as_slice-2.ensures)

pub check_loading-requires-clause-agents : goal.check_loading-requires-clause-agents
check_loading-requires-clause-agents c =
    let net = c.args.net.now in
    let trips = c.args.trips.now in
    ap length c.as_slice-3.ensures
    ∙ (rows_fit net trips c.args.agents.now c.in_ok-rows.rows c.in-Yes.is
    (subst (λ agents. IsVerdict (checks_before net trips agents) c.in_ok-rows.rows) c.as_slice-2.ensures c.in_ok-rows.ensures.verdict)).0

pub returns : goal.returns
returns c =
    let net = c.args.net.now in
    let trips = c.args.trips.now in
    let agents = c.args.agents.now in
    let times = c.args.times.now in
    let plan = c.args.plan.now in
    let routes = c.of-routes.result in
    IfOk-weaker c.check_loading.result
    (λ w. IsVerdict (checks_after net trips plan c.as_slice-3.result.now routes c.as_slice-4.result.now) w) (λ w. IsAudit net trips agents times plan w)
    (λ w k. passes_before net trips agents times plan routes c.in_ok-rows.rows w c.in-Yes.is
    (subst (λ seen. IsVerdict (checks_before net trips seen) c.in_ok-rows.rows) c.as_slice-2.ensures c.in_ok-rows.ensures.verdict)
    (c.of-routes.ensures ∙ c.in_ok-rows.ensures.routes (ap Ok c.in-Yes.is) ∙ ap (λ seen. routes_named net seen) c.as_slice-2.ensures)
    (subst (λ seen. IsVerdict (checks_after net trips plan agents routes seen) w) c.as_slice-4.ensures
    (subst (λ seen. IsVerdict (checks_after net trips plan seen routes c.as_slice-4.result.now) w) c.as_slice-3.ensures k)))
    c.check_loading.ensures
