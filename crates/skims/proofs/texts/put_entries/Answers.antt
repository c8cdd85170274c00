use Rattle.std.proofs.Common.{refl, []}
use Rattle.std.proofs.lemmas.Result.{err_from_is_err_and}
use Rattle.desk_io.specs.declared.desk.Output.TheVariants as output
use Rattle.skims.specs.Texts.{entry_line, skim_header, skim_text}
use Rattle.pending_text.proofs.LineFacts.{line-added, line-refused, lines-put}
use Rattle.skims.proofs.texts.put_entries.Goals as goal

pub returns-in_err-add_entry : goal.returns-in_err-add_entry
unfolding skim_text
returns-in_err-add_entry g c =
    rw (err_from_is_err_and c.from_residual.result c.from_residual.ensures.1).1
    (line-refused _ output.Skim entry_line skim_header c.args.entries.now c.each.entry-index _ _ [] c.each.pending _ _ _ _ _ _ c.each-test.true refl c.each.invariant c.in_err-add_entry.ensures)

pub each-preserved : goal.each-preserved
each-preserved g c =
    line-added output.Skim entry_line skim_header c.args.entries.now c.each.entry-index _ _ [] c.each.pending c.add_entry.new.pending _ _ _ _ c.each-test.true refl c.each.invariant c.in_ok-add_entry.ensures

pub returns : goal.returns
unfolding skim_text
returns g c = lines-put output.Skim entry_line skim_header c.args.entries.now c.each.entry-index c.each.pending _ _ _ c.put_out.result c.each-test.false c.each.invariant c.put_out.ensures.puts
