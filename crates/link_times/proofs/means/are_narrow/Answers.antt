use Rattle.std.proofs.Common.{◌^◌, arith, refl}
use Rattle.link_times.proofs.RoundedUp.{all_more, all_whole}
use Rattle.link_times.proofs.means.are_narrow.Goals as goal

pub loop-count-preserved : goal.loop-count-preserved
loop-count-preserved c = all_more (2 ^ 32) c.args.counts.now c.loop-count.count-index 0 c.loop-count-test.true c.loop-count.invariant (let a = c.if-count-from.false in let b = c.from.ensures in omega (arith, a, b))

pub returns : goal.returns
returns c = (λ _. all_whole (2 ^ 32) c.args.counts.now c.loop-count.count-index c.loop-count-test.false c.loop-count.invariant, λ _. refl)
