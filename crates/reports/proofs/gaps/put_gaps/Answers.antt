use Rattle.std.proofs.Common.{[]}
use Rattle.std.proofs.lemmas.Result.{err_from_is_err_and}
use Rattle.std.specs.List.{enumerate_from}
use Rattle.std.proofs.lemmas.List.FromFn.{length-enumerate_from}
use Rattle.desk_io.specs.declared.desk.Output.TheVariants as output
use Rattle.reports.specs.Texts.{gap_header, gap_text, numbered_line}
use Rattle.pending_text.proofs.LineFacts.{line-added, line-refused, lines-put}
use Rattle.reports.proofs.TextsFacts.{gap-there}
use Rattle.reports.proofs.gaps.put_gaps.Goals as goal

pub returns-in_err-add_gap : goal.returns-in_err-add_gap
unfolding gap_text
returns-in_err-add_gap g c =
    rw (err_from_is_err_and c.from_residual.result c.from_residual.ensures.1).1
    (line-refused _ output.Gap numbered_line gap_header (enumerate_from 1 c.args.lines.now) c.each.place (0, _) _ [] c.each.pending _ _ _ _ _ _
    (rw (length-enumerate_from 1 c.args.lines.now) c.each-test.true) (gap-there c.args.lines.now c.each.place _ c.each-test.true) c.each.invariant c.in_err-add_gap.ensures)

pub each-preserved : goal.each-preserved
each-preserved g c =
    line-added output.Gap numbered_line gap_header (enumerate_from 1 c.args.lines.now) c.each.place (0, _) _ [] c.each.pending c.add_gap.new.pending _ _ _ _
    (rw (length-enumerate_from 1 c.args.lines.now) c.each-test.true) (gap-there c.args.lines.now c.each.place _ c.each-test.true) c.each.invariant c.in_ok-add_gap.ensures

pub returns : goal.returns
unfolding gap_text
returns g c =
    lines-put output.Gap numbered_line gap_header (enumerate_from 1 c.args.lines.now) c.each.place c.each.pending _ _ _ c.put_out.result
    (rw (length-enumerate_from 1 c.args.lines.now) c.each-test.false) c.each.invariant c.put_out.ensures.puts
