use Rattle.std.proofs.Common.{◌∙◌, ◌*◌, ap, length, subst, sym}
use Rattle.dta_model.specs.Lent.{plan_of}
use Rattle.dta_model.specs.LinkTimes.{bucket_count, table_of}
use Rattle.dta_model.specs.Loading.{journeys_of}
use Rattle.dta_model.proofs.Ends.{journeys_many}
use Rattle.audit.specs.Audit.{all_journey_checks, all_time_checks}
use Rattle.audit.specs.Checks.{IsVerdict}
use Rattle.audit.proofs.Placed.{buckets_many, links_many}
use Rattle.audit.proofs.Verdicts.{no_more, yes_more}
use Rattle.audit.proofs.audited.check_loading.Goals as goal

pub check_journeys-journeys-requires : goal.check_journeys-journeys-requires
check_journeys-journeys-requires c =
    c.requires.agents ∙ sym (ap length (c.as_slice.ensures ∙ c.in_ok-loaded.ensures.journeys) ∙ journeys_many (plan_of c.args.loading.now))

pub returns-in-No : goal.returns-in-No
returns-in-No c =
    let p = plan_of c.args.loading.now in
    no_more (all_journey_checks c.args.agents.now (journeys_of p)) (all_time_checks (table_of p c.args.bucket) c.args.times.now)
    c.check_journeys-journeys.result c.in-No.table c.in-No.line c.in-No.column c.in-No.is
    (subst (λ js. IsVerdict (all_journey_checks c.args.agents.now js) c.check_journeys-journeys.result) (c.as_slice.ensures ∙ c.in_ok-loaded.ensures.journeys) c.check_journeys-journeys.ensures)

pub check_times-requires-clause-links : goal.check_times-requires-clause-links
check_times-requires-clause-links c =
    c.link_count.ensures.count ∙ sym (links_many (plan_of c.args.loading.now) c.args.bucket c.in_ok-table.table c.in_ok-table.ensures.table)

pub check_times-requires-clause-rows : goal.check_times-requires-clause-rows
check_times-requires-clause-rows c =
    let p = plan_of c.args.loading.now in
    c.requires.times.as_many
    ∙ ap (λ n. length p.net.links * n) (sym (buckets_many p c.args.bucket c.in_ok-table.table c.in_ok-table.ensures.table))
    ∙ ap (λ n. n * bucket_count c.in_ok-table.table) (sym c.link_count.ensures.count)

pub returns : goal.returns
returns c =
    let p = plan_of c.args.loading.now in
    yes_more (all_journey_checks c.args.agents.now (journeys_of p)) (all_time_checks (table_of p c.args.bucket) c.args.times.now)
    c.check_journeys-journeys.result c.check_times.result c.in-Yes.is
    (subst (λ js. IsVerdict (all_journey_checks c.args.agents.now js) c.check_journeys-journeys.result) (c.as_slice.ensures ∙ c.in_ok-loaded.ensures.journeys) c.check_journeys-journeys.ensures)
    (subst (λ t. IsVerdict (all_time_checks t c.args.times.now) c.check_times.result) c.in_ok-table.ensures.table c.check_times.ensures)
