use Rattle.std.proofs.Common.{◌≡◌, ℕ, ◌+◌, ◌*◌, ◌<◌, length, drop, arith, ap, sym, ◌∙◌, subst}
use Rattle.dta_model.specs.Lent.{plan_of}
use Rattle.dta_model.specs.declared.loading.TheConstants.{MOST_HORIZON}
use Rattle.std.proofs.lemmas.List.{length-set}
use Rattle.link_times.specs.Buckets.{cells_of}
use Rattle.link_times.specs.Journeys.{moves_along}
use Rattle.link_times.specs.Sums.{AreLeft, AreWithin}
use Rattle.link_times.proofs.OneMore.{journey_step, left_last}
use Rattle.link_times.proofs.adding.add_journey.Goals as goal

pub loop-place-preserved : goal.loop-place-preserved
loop-place-preserved c =
    let i = c.loop-place.invariant in
    let n : ℕ = c.loop-place.place in
    let sums_long : length c.add_visit.new.sums ≡ length c.loop-place.sums = ap (λ xs. length xs) c.add_visit.ensures.sums ∙ length-set c.loop-place.sums _ _ in
    let counts_long : length c.add_visit.new.counts ≡ length c.loop-place.counts = ap (λ xs. length xs) c.add_visit.ensures.counts ∙ length-set c.loop-place.counts _ _ in
    let room : length c.loop-place.sums ≡ cells_of c.args.buckets.now = i.0 ∙ c.requires.size in
    let step = journey_step (plan_of c.args.buckets.now.loading) c.args.buckets.now.steps c.args.buckets.now.count c.args.vehicle c.args.route.now c.as_slice-entries.result.now c.args.journey.now.arrival n (n + 1) c.visit_steps-steps.result c.place_of-bucket_place.result (c.args.vehicle * MOST_HORIZON + n) _
    c.args.sums.now c.args.counts.now c.loop-place.sums c.loop-place.counts c.add_visit.new.sums c.add_visit.new.counts (omega arith) (rw c.as_slice-entries.ensures c.requires.gone.within) c.loop-place-test.true c.visit_steps-steps.ensures.time c.visit_steps-steps.ensures.least c.visit_steps-steps.ensures.most
    c.place_of-bucket_place.ensures.place c.place_of-bucket_place.ensures.bucket (subst (λ k. c.place_of-bucket_place.result < k) (sym room) c.place_of-bucket_place.ensures.inside) (i.1) c.add_visit.ensures.sums c.add_visit.ensures.counts (i.2) (i.3) in (
      sums_long ∙ i.0,
      counts_long ∙ i.1 ∙ sym sums_long,
      step.0,
      subst (λ k. AreWithin k c.add_visit.new.sums c.add_visit.new.counts) (omega arith) step.1,
    )

pub returns-clause-added : goal.returns-clause-added
returns-clause-added c =
    let i = c.loop-place.invariant in
    let past = c.loop-place-test.false in
    rw (← c.as_slice-entries.ensures) (left_last (plan_of c.args.buckets.now.loading) c.args.buckets.now.steps c.args.buckets.now.count c.args.vehicle c.args.route.now c.as_slice-entries.result.now c.args.journey.now.arrival c.args.sums.now c.args.counts.now c.loop-place.sums c.loop-place.counts (rw c.as_slice-entries.ensures c.requires.gone.within)
    (subst (λ k. AreLeft (plan_of c.args.buckets.now.loading) c.args.buckets.now.steps c.args.buckets.now.count (moves_along c.args.vehicle c.args.route.now c.as_slice-entries.result.now c.args.journey.now.arrival) (drop k (moves_along c.args.vehicle c.args.route.now c.as_slice-entries.result.now c.args.journey.now.arrival)) c.args.sums.now c.args.counts.now c.loop-place.sums c.loop-place.counts) (let e = c.loop-place.auto.place-end in omega (arith, past, e)) (i.2)))
