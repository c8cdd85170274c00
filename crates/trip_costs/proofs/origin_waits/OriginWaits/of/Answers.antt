use Rattle.std.proofs.Common.{◌≤◌, ◌∙◌, length, ap, sym, subst}
use Rattle.dta_model.specs.Lent.{plan_of}
use Rattle.dta_model.proofs.Ends.{journeys_many}
use Rattle.trip_costs.specs.OriginWaits.{waits_in}
use Rattle.trip_costs.proofs.Waits.{means_of, some_bucket, table_is, waits_long}
use Rattle.trip_costs.proofs.origin_waits.OriginWaits.of.Goals as goal

pub wait_sums-requires-clause-loaded : goal.wait_sums-requires-clause-loaded
wait_sums-requires-clause-loaded c = ap (λ js. length js) c.requires.loaded ∙ journeys_many (plan_of c.args.loading.now)

pub returns-clause-table : goal.returns-clause-table
returns-clause-table c =
    let some : 1 ≤ c.div_ceil-buckets.result = subst (λ n. 1 ≤ n) (sym c.div_ceil-buckets.ensures) (some_bucket c.args.bucket c.args.loading.now.horizon c.requires.bucket c.requires.sound.horizon_least) in
    table_is (plan_of c.args.loading.now) c.args.bucket c.div_ceil-buckets.result c.args.loaded.now c.in_ok-sums.field-0.sums.items c.in_ok-sums.field-0.departed.items c.in_ok-waits.waits.items c.div_ceil-buckets.ensures some c.in_ok-sums.ensures
    (means_of c.deref.result.now c.in_ok-sums.field-0.sums.items c.deref-2.result.now c.in_ok-sums.field-0.departed.items c.in_ok-waits.waits.items c.deref.ensures.value c.deref-2.ensures.value c.in_ok-waits.ensures)
    ∙ ap (λ js. waits_in (plan_of c.args.loading.now) c.args.bucket js) c.requires.loaded

pub returns-clause-size : goal.returns-clause-size
returns-clause-size c =
    let some : 1 ≤ c.div_ceil-buckets.result = subst (λ n. 1 ≤ n) (sym c.div_ceil-buckets.ensures) (some_bucket c.args.bucket c.args.loading.now.horizon c.requires.bucket c.requires.sound.horizon_least) in
    waits_long (plan_of c.args.loading.now) c.args.bucket c.div_ceil-buckets.result c.args.loaded.now c.in_ok-sums.field-0.sums.items c.in_ok-sums.field-0.departed.items c.in_ok-waits.waits.items c.div_ceil-buckets.ensures some c.in_ok-sums.ensures
    (means_of c.deref.result.now c.in_ok-sums.field-0.sums.items c.deref-2.result.now c.in_ok-sums.field-0.departed.items c.in_ok-waits.waits.items c.deref.ensures.value c.deref-2.ensures.value c.in_ok-waits.ensures)
