use Rattle.std.specs.Prelude.{option_copied}
use Rattle.std.proofs.Common.{◌<◌, length, ap, sym, ◌∙◌, subst, Some, refl}
use Rattle.dta_model.specs.Lent.{plan_of}
use Rattle.link_times.specs.Sums.{AreAdded}
use Rattle.dta_model.proofs.Ends.{journeys_many}
use Rattle.link_times.proofs.Gone.{gone_by, unrouted}
use Rattle.link_times.proofs.Totals.{none_added}
use Rattle.link_times.proofs.adding.add_vehicle.Goals as goal

pub get-journey-requires : goal.get-journey-requires
get-journey-requires c = subst (λ n. c.args.vehicle < n) (sym (ap (λ L. length L) c.requires.loaded ∙ journeys_many (plan_of c.args.buckets.now.loading))) c.requires.vehicle

pub add_journey-requires-clause-gone : goal.add_journey-requires-clause-gone
add_journey-requires-clause-gone c = gone_by (plan_of c.args.buckets.now.loading) c.requires.buckets.sound c.args.vehicle c.args.loaded.now _ _ c.get-journey.result.now _ (c.get.ensures ∙ ap (λ o. Some (option_copied o)) c.in-Some.is) c.as_slice.ensures c.requires.loaded c.get-journey.ensures refl

pub returns-in-Some-clause-added : goal.returns-in-Some-clause-added
returns-in-Some-clause-added c =
    let gone = gone_by (plan_of c.args.buckets.now.loading) c.requires.buckets.sound c.args.vehicle c.args.loaded.now _ c.as_slice.result.now c.get-journey.result.now _ (c.get.ensures ∙ ap (λ o. Some (option_copied o)) c.in-Some.is) c.as_slice.ensures c.requires.loaded c.get-journey.ensures refl in
    subst (λ L. AreAdded (plan_of c.args.buckets.now.loading) c.args.buckets.now.steps c.args.buckets.now.count L c.args.sums.now c.args.counts.now c.add_journey.new.sums c.add_journey.new.counts) (sym gone.moves) c.add_journey.ensures.added

pub returns-in_default-clause-added : goal.returns-in_default-clause-added
returns-in_default-clause-added c =
    subst (λ L. AreAdded (plan_of c.args.buckets.now.loading) c.args.buckets.now.steps c.args.buckets.now.count L c.args.sums.now c.args.counts.now c.args.sums.now c.args.counts.now) (sym (unrouted (plan_of c.args.buckets.now.loading) c.requires.buckets.sound c.args.vehicle c.in_default.ensures)) (none_added (plan_of c.args.buckets.now.loading) c.args.buckets.now.steps c.args.buckets.now.count c.args.sums.now c.args.counts.now)
