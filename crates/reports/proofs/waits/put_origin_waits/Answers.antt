use Rattle.std.proofs.Common.{arith, [], length}
use Rattle.std.proofs.lemmas.Result.{err_from_is_err_and}
use Rattle.std.proofs.lemmas.List.FromFn.{length-range_with_len}
use Rattle.desk_io.specs.declared.desk.Output.TheVariants as output
use Rattle.net_core.specs.Network.{numbers_below}
use Rattle.reports.specs.Texts.{link_wait_lines, origin_wait_header, origin_wait_text}
use Rattle.pending_text.proofs.LineFacts.{line-added, line-refused, lines-put}
use Rattle.reports.proofs.TextsFacts.{number-there}
use Rattle.reports.proofs.waits.put_origin_waits.Goals as goal

pub returns-in_err-add_link : goal.returns-in_err-add_link
unfolding origin_wait_text
returns-in_err-add_link g c =
    let lines = link_wait_lines c.args.net.now c.args.waits.now in
    let links = length c.args.net.now.links in
    rw (err_from_is_err_and c.from_residual.result c.from_residual.ensures.1).1
    (line-refused _ output.OriginWait lines origin_wait_header (numbers_below links) c.each.link 0 _ [] c.each.pending _ _ _ _ _ _
    (rw (length-range_with_len 0 links) (omega arith)) (number-there lines links c.each.link (omega arith)) c.each.invariant c.in_err-add_link.ensures)

pub each-preserved : goal.each-preserved
each-preserved g c =
    let lines = link_wait_lines c.args.net.now c.args.waits.now in
    let links = length c.args.net.now.links in
    line-added output.OriginWait lines origin_wait_header (numbers_below links) c.each.link 0 _ [] c.each.pending c.add_link.new.pending _ _ _ _
    (rw (length-range_with_len 0 links) (omega arith)) (number-there lines links c.each.link (omega arith)) c.each.invariant c.in_ok-add_link.ensures

pub returns : goal.returns
unfolding origin_wait_text
returns g c =
    let links = length c.args.net.now.links in
    lines-put output.OriginWait (link_wait_lines c.args.net.now c.args.waits.now) origin_wait_header (numbers_below links) c.each.link c.each.pending _ _ _ c.put_out.result
    (rw (length-range_with_len 0 links) (omega arith)) c.each.invariant c.put_out.ensures.puts
