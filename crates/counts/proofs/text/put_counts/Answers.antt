use Rattle.std.proofs.lemmas.Result.{err_from_is_err_and}
use Rattle.desk_io.specs.declared.desk.Output.TheVariants as output
use Rattle.pending_text.proofs.SendingFacts.{has-failed, has-put, has-refused, has-text, has-then}
use Rattle.counts.specs.Text.{counts_text}
use Rattle.counts.proofs.text.put_counts.Goals as goal

pub returns-in_err-add_turn_lines : goal.returns-in_err-add_turn_lines
unfolding counts_text
returns-in_err-add_turn_lines g c =
    rw ((err_from_is_err_and c.from_residual.result c.from_residual.ensures.1).1, ← c.header-pending.ensures, ← c.as_slice.ensures)
    (has-refused _ output.Counts c.header-pending.result _ _ _ _ _ _ _ _ _ _ (has-text output.Counts c.header-pending.result _) c.in_err-add_turn_lines.ensures)

pub returns-in_err-add_through_lines : goal.returns-in_err-add_through_lines
unfolding counts_text
returns-in_err-add_through_lines g c =
    rw ((err_from_is_err_and c.from_residual-in_err-add_through_lines.result c.from_residual-in_err-add_through_lines.ensures.1).1, ← c.header-pending.ensures, ← c.as_slice.ensures, ← c.as_slice-2.ensures)
    (has-failed _ output.Counts _ _ _ _ _ _ _ _ _ _
    (has-then output.Counts c.header-pending.result _ _ _ _ _ _ _ _ (has-text output.Counts c.header-pending.result _) c.in_ok-add_turn_lines.ensures) c.in_err-add_through_lines.ensures)

pub returns : goal.returns
unfolding counts_text
returns g c =
    rw (← c.header-pending.ensures, ← c.as_slice.ensures, ← c.as_slice-2.ensures)
    (has-put output.Counts _ c.add_through_lines.new.pending _ _ _ c.put_out.result
    (has-then output.Counts _ _ _ _ _ _ _ _ _
    (has-then output.Counts c.header-pending.result _ _ _ _ _ _ _ _ (has-text output.Counts c.header-pending.result _) c.in_ok-add_turn_lines.ensures) c.in_ok-add_through_lines.ensures)
    c.put_out.ensures.puts)
