use Rattle.std.proofs.Common.{arith, []}
use Rattle.std.proofs.lemmas.Result.{err_from_is_err_and}
use Rattle.std.proofs.lemmas.List.FromFn.{length-range_with_len}
use Rattle.desk_io.specs.declared.desk.Output.TheVariants as output
use Rattle.net_core.specs.Network.{numbers_below}
use Rattle.dta_model.specs.LinkTimes.{buckets_to}
use Rattle.reports.specs.Texts.{told_wait_line, link_wait_lines}
use Rattle.pending_text.proofs.LineFacts.{line-added, line-refused, lines-added}
use Rattle.reports.proofs.TextsFacts.{number-there}
use Rattle.reports.proofs.waits.add_link.Goals as goal

pub returns-in_err-add_bucket : goal.returns-in_err-add_bucket
unfolding link_wait_lines
returns-in_err-add_bucket g c =
    let line = told_wait_line c.args.net.now c.args.waits.now c.args.link.0 in
    let buckets = buckets_to c.args.waits.now.bucket c.args.waits.now.horizon in
    rw (err_from_is_err_and c.from_residual.result c.from_residual.ensures.1).1
    (line-refused _ output.OriginWait line [] (numbers_below buckets) c.each.bucket 0 _ c.args.pending.now c.each.pending _ _ _ _ _ _
    (rw (length-range_with_len 0 buckets) (omega arith)) (number-there line buckets c.each.bucket (omega arith)) c.each.invariant c.in_err-add_bucket.ensures)

pub each-preserved : goal.each-preserved
each-preserved g c =
    let line = told_wait_line c.args.net.now c.args.waits.now c.args.link.0 in
    let buckets = buckets_to c.args.waits.now.bucket c.args.waits.now.horizon in
    line-added output.OriginWait line [] (numbers_below buckets) c.each.bucket 0 _ c.args.pending.now c.each.pending c.add_bucket.new.pending _ _ _ _
    (rw (length-range_with_len 0 buckets) (omega arith)) (number-there line buckets c.each.bucket (omega arith)) c.each.invariant c.in_ok-add_bucket.ensures

pub returns : goal.returns
unfolding link_wait_lines
returns g c =
    let buckets = buckets_to c.args.waits.now.bucket c.args.waits.now.horizon in
    lines-added output.OriginWait (told_wait_line c.args.net.now c.args.waits.now c.args.link.0) [] (numbers_below buckets) c.each.bucket c.args.pending.now c.each.pending _ _ _
    (rw (length-range_with_len 0 buckets) (omega arith)) c.each.invariant
