use Rattle.std.proofs.Common.{◌-◌, ◌<◌, ◌∙◌, arith, ap, refl, subst}
use Rattle.dta_model.specs.LinkTimes.{bucket_count}
use Rattle.trip_costs.specs.Latest.{AreLatestExits, latest_before, latest_exit}
use Rattle.trip_costs.specs.TripCosts.{after_time}
use Rattle.trip_costs.proofs.Buckets.{latest_none, number_more}
use Rattle.trip_costs.proofs.exits.add_link.Goals as goal

pub loop-bucket-init : goal.loop-bucket-init
loop-bucket-init c = (
  subst (λ n. AreLatestExits c.args.times.now n c.args.latest.now.items) (omega arith) c.requires.before,
  latest_none c.args.times.now c.args.link.0 (0 - 1) refl,
)

pub loop-bucket-preserved : goal.loop-bucket-preserved
loop-bucket-preserved c =
    let t = c.args.times.now in
    let b = c.loop-bucket.bucket in
    let inside : c.loop-bucket.bucket < bucket_count c.args.times.now = omega (arith, c.loop-bucket-test.true, c.buckets-bucket-end.ensures.is) in
    let more = number_more (latest_exit t) (bucket_count t) c.args.link.0 b c.latest_by-before.result c.loop-bucket.latest.items c.push.new.self.items inside (c.loop-bucket.invariant.0) c.latest_by-before.ensures c.in_ok-push.ensures.items in (
      subst (λ n. AreLatestExits c.args.times.now n c.push.new.self.items) (omega arith) more,
      c.latest_by-before.ensures ∙ ap (λ n. latest_before (after_time c.args.times.now c.args.link.0) c.args.times.now.bucket n) (omega arith),
    )
