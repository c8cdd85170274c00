use Rattle.std.proofs.Common.{refl, []}
use Rattle.std.proofs.lemmas.Result.{err_from_is_err_and}
use Rattle.desk_io.specs.declared.desk.Output.TheVariants as output
use Rattle.reports.specs.Texts.{free_link_line, free_link_time_header, free_link_time_text}
use Rattle.pending_text.proofs.LineFacts.{line-added, line-refused, lines-put}
use Rattle.reports.proofs.free.put_links.Goals as goal

pub returns-in_err-add_link : goal.returns-in_err-add_link
unfolding free_link_time_text
returns-in_err-add_link g c =
    rw (err_from_is_err_and c.from_residual.result c.from_residual.ensures.1).1
    (line-refused _ output.LinkTime free_link_line free_link_time_header c.args.links.now c.each.row-index _ _ [] c.each.pending _ _ _ _ _ _ c.each-test.true refl c.each.invariant c.in_err-add_link.ensures)

pub each-preserved : goal.each-preserved
each-preserved g c = line-added output.LinkTime free_link_line free_link_time_header c.args.links.now c.each.row-index _ _ [] c.each.pending c.add_link.new.pending _ _ _ _ c.each-test.true refl c.each.invariant c.in_ok-add_link.ensures

pub returns : goal.returns
unfolding free_link_time_text
returns g c = lines-put output.LinkTime free_link_line free_link_time_header c.args.links.now c.each.row-index c.each.pending _ _ _ c.put_out.result c.each-test.false c.each.invariant c.put_out.ensures.puts
