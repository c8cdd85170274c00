use Rattle.std.proofs.Common.{◌≡◌, length, arith, ◌∙◌}
use Rattle.counts.specs.Inside.Turns.{is_count_of}
use Rattle.counts.specs.Turns.{turn_count}
use Rattle.counts.proofs.Counting.{with_one-first, with_one-none, with_one-read}
use Rattle.counts.proofs.TurnOrder.{more}
use Rattle.counts.proofs.turns.count_turn.Goals as goal
use Rattle.counts.proofs.turns.count_turn.Goals.{else-many-gt0-via-then-many-gt0+else-is_of, else-many-gt0-via-else-many-gt0}

pub returns-then-is_of : goal.returns-then-is_of
returns-then-is_of c =
    let is = c.len-many.ensures in
    let many : c.len-many.result ≡ length c.args.counts.now.items = omega (arith, is) in
    with_one-read (is_count_of c.args.turn) more (turn_count c.args.turn 1) c.args.counts.now.items c.len-many.result c.index.result.now c.index_mut-last.result.now c.is_of.result c.if-many-gt0.true many c.index.ensures c.index_mut-last.ensures.value c.is_of.ensures c.if-is_of.true

pub returns : goal.returns
returns c =
    let is = c.len-many.ensures in
    let many : c.len-many.result ≡ length c.args.counts.now.items = omega (arith, is) in
    c.in_ok-push.ensures.items
    ∙ elim c.else-many-gt0.branch [
      | else-many-gt0-via-then-many-gt0+else-is_of w ↦ with_one-first (is_count_of c.args.turn) more (turn_count c.args.turn 1) c.args.counts.now.items c.len-many.result w.index.result.now w.is_of.result w.if-many-gt0.true many w.index.ensures w.is_of.ensures w.if-is_of.false
      | else-many-gt0-via-else-many-gt0 w ↦ with_one-none (is_count_of c.args.turn) more (turn_count c.args.turn 1) c.args.counts.now.items c.len-many.result w.if-many-gt0.false many
    ]
