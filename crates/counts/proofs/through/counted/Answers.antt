use Rattle.std.specs.Prelude.{◌^◌}
use Rattle.std.proofs.Common.{◌+◌, ◌<◌, ◌≤◌, get_or, arith, refl}
use Rattle.std.proofs.lemmas.List.Elements.{All-weaker}
use Rattle.counts.specs.Inside.Pairs.{is_count_of, pair_order}
use Rattle.counts.specs.Through.{is_pair, through_count}
use Rattle.counts.specs.declared.through.ZonePair.{ZonePair}
use Rattle.counts.proofs.Counting.{with_one-most}
use Rattle.counts.proofs.InOrder.{counted_more, counted_none}
use Rattle.counts.proofs.PairOrder.{more, pairs_count}
use Rattle.counts.proofs.through.counted.Goals as goal

pub loop-pair-init : goal.loop-pair-init
loop-pair-init c = counted_none pair_order is_pair through_count (λ x. x.vehicles) c.args.pairs.now c.new-counts.result.items c.new-counts.ensures.items

pub count_pair-requires : goal.count_pair-requires
count_pair-requires c =
    let few : c.loop-pair.pair-index + 1 < 2 ^ 64 = omega arith in
    All-weaker (λ x. x.vehicles ≤ c.loop-pair.pair-index) (λ x. x.vehicles + 1 < 2 ^ 64) (λ x h. omega (arith, h, few)) c.loop-pair.counts.items c.loop-pair.invariant.1

pub loop-pair-preserved : goal.loop-pair-preserved
loop-pair-preserved c =
    let none : ZonePair = record { origin = 0; destination = 0 } in
    let next : ZonePair = get_or c.args.pairs.now c.loop-pair.pair-index none in (
      counted_more pairs_count c.args.pairs.now c.loop-pair.pair-index next none c.loop-pair.counts.items c.count_pair.new.counts.items c.loop-pair-test.true refl c.requires c.loop-pair.invariant.0 c.in_ok-count_pair.ensures,
      with_one-most (λ x. x.vehicles) (is_count_of next) more (through_count next 1) c.loop-pair.pair-index (λ x. refl) (omega arith) c.loop-pair.counts.items c.count_pair.new.counts.items c.in_ok-count_pair.ensures c.loop-pair.invariant.1,
    )
