use Rattle.std.proofs.Common.{arith}
use Rattle.labels.proofs.OfStates.LongestFacts.{most_over}
use Rattle.labels.proofs.states.longest_way.most_of.Goals as goal

pub returns : goal.returns
returns c =
    let is = c.bucket_steps-some.ensures.is in
    let some = c.bucket_steps-some.ensures.some in
    most_over c.args.times.now c.args.link _ c.loop-bucket.bucket (omega (arith, is, some)) (omega (arith, c.loop-bucket-test.false, c.buckets-bucket-end.ensures.is)) c.loop-bucket.invariant.late c.loop-bucket.invariant.before
