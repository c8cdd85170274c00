use Rattle.std.proofs.Common.{◌≡◌, suc, ◌+◌, ◌*◌, ◌<◌, ◌≤◌, ◌∙◌, arith, ap, sym, subst}
use Rattle.dta_model.specs.LinkTimes.{buckets_to}
use Rattle.trip_costs.specs.Entries.{AreEntryNumbers, entry_before, entry_number}
use Rattle.trip_costs.proofs.Buckets.{begins_early, number_more}
use Rattle.trip_costs.proofs.Entering.{before_first, number_cut}
use Rattle.trip_costs.proofs.entries.add_link.Goals as goal

pub loop-bucket-init : goal.loop-bucket-init
loop-bucket-init c = (
  subst (λ n. AreEntryNumbers c.args.waits.now n c.args.numbers.now.items) (omega arith) c.requires.before,
  λ h. before_first c.args.waits.now c.args.link.0,
)

pub number_of-number-requires-clause-before : goal.number_of-number-requires-clause-before
number_of-number-requires-clause-before c =
    c.loop-bucket.invariant.1 (let a = c.loop-bucket-test.true in let b = c.buckets-bucket-end.ensures.is in omega (arith, a, b))

pub loop-bucket-preserved : goal.loop-bucket-preserved
loop-bucket-preserved c =
    let w = c.args.waits.now in
    let b = c.loop-bucket.bucket in
    let some = c.buckets-bucket-end.ensures.last in
    let inside : c.loop-bucket.bucket < buckets_to c.args.waits.now.bucket c.args.waits.now.horizon = omega (arith, c.loop-bucket-test.true, c.buckets-bucket-end.ensures.is) in
    let more = number_more (entry_number w) (buckets_to w.bucket w.horizon) c.args.link.0 b c.number_of-number.result c.loop-bucket.numbers.items c.push.new.self.items inside (c.loop-bucket.invariant.0) c.number_of-number.ensures c.in_ok-push.ensures.items in
    let next : suc c.loop-bucket.bucket ≡ c.loop-bucket.bucket + 1 = omega arith in (
      subst (λ n. AreEntryNumbers c.args.waits.now n c.push.new.self.items) (omega arith) more,
      λ h. (let early = begins_early w.bucket w.horizon (b + 1) some h in
          let cut = number_cut w c.args.link.0 b some (subst (λ n. n * c.args.waits.now.bucket ≤ c.args.waits.now.horizon) (sym next) (omega (arith, early))) in
          let number = c.number_of-number.ensures in
          let is : c.min-before.result ≡ entry_before c.args.waits.now c.args.link.0 (suc c.loop-bucket.bucket) = omega (arith, cut, number, c.horizon.ensures.is, c.min-before.ensures) in
          is ∙ ap (λ n. entry_before c.args.waits.now c.args.link.0 n) next),
    )
