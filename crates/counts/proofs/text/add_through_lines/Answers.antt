use Rattle.std.proofs.Common.{refl, []}
use Rattle.std.proofs.lemmas.Result.{err_from_is_err_and}
use Rattle.desk_io.specs.declared.desk.Output.TheVariants as output
use Rattle.counts.specs.Text.{through_line, through_lines}
use Rattle.pending_text.proofs.LineFacts.{line-added, line-refused, lines-added}
use Rattle.counts.proofs.text.add_through_lines.Goals as goal

pub returns-in_err-add_through : goal.returns-in_err-add_through
unfolding through_lines
returns-in_err-add_through g c =
    rw (err_from_is_err_and c.from_residual.result c.from_residual.ensures.1).1
    (line-refused _ output.Counts (through_line c.args.horizon) [] c.args.through.now c.each.count-index _ _ c.args.pending.now c.each.pending _ _ _ _ _ _ c.each-test.true refl c.each.invariant c.in_err-add_through.ensures)

pub each-preserved : goal.each-preserved
each-preserved g c =
    line-added output.Counts (through_line c.args.horizon) [] c.args.through.now c.each.count-index _ _ c.args.pending.now c.each.pending c.add_through.new.pending _ _ _ _ c.each-test.true refl c.each.invariant c.in_ok-add_through.ensures

pub returns : goal.returns
unfolding through_lines
returns g c = lines-added output.Counts (through_line c.args.horizon) [] c.args.through.now c.each.count-index c.args.pending.now c.each.pending _ _ _ c.each-test.false c.each.invariant
