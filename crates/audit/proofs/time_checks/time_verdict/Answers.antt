use Rattle.std.proofs.Common.{◌∙◌, ◌/◌, ◌%◌, ◌*◌, ◌∷◌, []}
use Rattle.row_reader.specs.declared.faults.Column.TheVariants as column
use Rattle.dta_model.specs.LinkTimes.{bucket_count, entered_in, time_at}
use Rattle.audit.specs.Audit.{of_time}
use Rattle.audit.specs.Checks.{Check, same_number}
use Rattle.audit.proofs.Placed.{entered_is, time_is}
use Rattle.audit.proofs.Routed.{number_test_by}
use Rattle.audit.proofs.time_checks.time_verdict.Goals as goal

pub returns : goal.returns
returns c =
    let t = c.args.times.now in
    let r = c.args.r in
    let row = c.args.row.now in
    let l = r / bucket_count t in
    let b = r % bucket_count t in
    let place = c.link_and_bucket-bucket.result in
    let at = c.link_and_bucket-bucket.ensures in
    let entered : Check = of_time r column.Entered (same_number row.entered (entered_in t l b)) in
    let travel : Check = of_time r column.TravelSteps (same_number row.travel (time_at t l (b * t.bucket))) in
    c.then.ensures.verdict (entered ∷ []) (travel ∷ [])
    (c.of.ensures (same_number row.entered (entered_in t l b))
    (number_test_by row.entered (entered_in t l b) c.entered.result
    (entered_is t r place.0.0 place.1 c.buckets.result c.entered.result c.buckets.ensures.is at.link at.bucket c.entered.ensures)))
    (c.of-2.ensures (same_number row.travel (time_at t l (b * t.bucket)))
    (number_test_by row.travel (time_at t l (b * t.bucket)) c.at.result
    (time_is t r place.0.0 place.1 c.buckets.result c.from.result c.from-2.result c.at.result c.buckets.ensures.is at.link at.bucket
    c.from.ensures (c.from-2.ensures ∙ c.bucket_steps.ensures.is) c.at.ensures.time)))
