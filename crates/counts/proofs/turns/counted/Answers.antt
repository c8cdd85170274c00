use Rattle.std.specs.Prelude.{◌^◌}
use Rattle.std.proofs.Common.{◌+◌, ◌<◌, ◌≤◌, get_or, arith, refl}
use Rattle.std.proofs.lemmas.List.Elements.{All-weaker}
use Rattle.counts.specs.Inside.Turns.{is_count_of, is_turn, turn_order}
use Rattle.counts.specs.Turns.{turn_count}
use Rattle.counts.specs.declared.turns.TimedTurn.{TimedTurn}
use Rattle.counts.proofs.Counting.{with_one-most}
use Rattle.counts.proofs.InOrder.{counted_more, counted_none}
use Rattle.counts.proofs.TurnOrder.{more, turns_count}
use Rattle.counts.proofs.turns.counted.Goals as goal

pub loop-turn-init : goal.loop-turn-init
loop-turn-init c = counted_none turn_order is_turn turn_count (λ x. x.vehicles) c.args.turns.now c.new-counts.result.items c.new-counts.ensures.items

pub count_turn-requires : goal.count_turn-requires
count_turn-requires c =
    let few : c.loop-turn.turn-index + 1 < 2 ^ 64 = omega arith in
    All-weaker (λ x. x.vehicles ≤ c.loop-turn.turn-index) (λ x. x.vehicles + 1 < 2 ^ 64) (λ x h. omega (arith, h, few)) c.loop-turn.counts.items c.loop-turn.invariant.1

pub loop-turn-preserved : goal.loop-turn-preserved
loop-turn-preserved c =
    let none : TimedTurn = record { a = 0; b = 0; bucket = 0 } in
    let next : TimedTurn = get_or c.args.turns.now c.loop-turn.turn-index none in (
      counted_more turns_count c.args.turns.now c.loop-turn.turn-index next none c.loop-turn.counts.items c.count_turn.new.counts.items c.loop-turn-test.true refl c.requires c.loop-turn.invariant.0 c.in_ok-count_turn.ensures,
      with_one-most (λ x. x.vehicles) (is_count_of next) more (turn_count next 1) c.loop-turn.turn-index (λ x. refl) (omega arith) c.loop-turn.counts.items c.count_turn.new.counts.items c.in_ok-count_turn.ensures c.loop-turn.invariant.1,
    )
