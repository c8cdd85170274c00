use Rattle.std.proofs.Common.{refl, []}
use Rattle.std.proofs.lemmas.Result.{err_from_is_err_and}
use Rattle.desk_io.specs.declared.desk.Output.TheVariants as output
use Rattle.counts.specs.Text.{turn_line, turn_lines}
use Rattle.pending_text.proofs.LineFacts.{line-added, line-refused, lines-added}
use Rattle.counts.proofs.text.add_turn_lines.Goals as goal

pub add_turn-requires : goal.add_turn-requires
add_turn-requires g c = c.requires c.each.turn-index _ c.each-test.true

pub returns-in_err-add_turn : goal.returns-in_err-add_turn
unfolding turn_lines
returns-in_err-add_turn g c =
    rw (err_from_is_err_and c.from_residual.result c.from_residual.ensures.1).1
    (line-refused _ output.Counts (turn_line c.args.net.now c.args.bucket c.args.horizon) [] c.args.turns.now c.each.turn-index _ _ c.args.pending.now c.each.pending _ _ _ _ _ _ c.each-test.true refl c.each.invariant c.in_err-add_turn.ensures)

pub each-preserved : goal.each-preserved
each-preserved g c =
    line-added output.Counts (turn_line c.args.net.now c.args.bucket c.args.horizon) [] c.args.turns.now c.each.turn-index _ _ c.args.pending.now c.each.pending c.add_turn.new.pending _ _ _ _ c.each-test.true refl c.each.invariant c.in_ok-add_turn.ensures

pub returns : goal.returns
unfolding turn_lines
returns g c = lines-added output.Counts (turn_line c.args.net.now c.args.bucket c.args.horizon) [] c.args.turns.now c.each.turn-index c.args.pending.now c.each.pending _ _ _ c.each-test.false c.each.invariant
