use Rattle.std.specs.Prelude.{option_copied}
use Rattle.std.proofs.Common.{◌<◌, length, ap, sym, ◌∙◌, subst, Some}
use Rattle.std.proofs.lemmas.Result.{on_ok_weaker}
use Rattle.dta_model.specs.Lent.{plan_of}
use Rattle.dta_model.specs.Loading.{trace_after}
use Rattle.dta_model.specs.Trace.{moves_of}
use Rattle.dta_model.proofs.Ends.{journeys_many}
use Rattle.link_times.proofs.Gone.{gone_by, unrouted}
use Rattle.counts.proofs.Adding.{none_added, turns_added}
use Rattle.counts.proofs.turns.add_vehicle.Goals as goal

pub get-journey-requires : goal.get-journey-requires
get-journey-requires c = subst (λ n. c.args.vehicle < n) (sym (ap (λ L. length L) c.requires.loaded ∙ journeys_many (plan_of c.args.loading.now))) c.requires.vehicle

pub add_turns-requires-clause-within : goal.add_turns-requires-clause-within
add_turns-requires-clause-within c = (gone_by (plan_of c.args.loading.now) c.requires.sound c.args.vehicle c.args.loaded.now _ c.as_slice.result.now c.get-journey.result.now c.as_slice-in-Some.result.now (c.get.ensures ∙ ap (λ o. Some (option_copied o)) c.in-Some.is) c.as_slice.ensures c.requires.loaded c.get-journey.ensures c.as_slice-in-Some.ensures).within

pub returns-in-Some : goal.returns-in-Some
returns-in-Some c =
    let gone = gone_by (plan_of c.args.loading.now) c.requires.sound c.args.vehicle c.args.loaded.now _ c.as_slice.result.now c.get-journey.result.now c.as_slice-in-Some.result.now (c.get.ensures ∙ ap (λ o. Some (option_copied o)) c.in-Some.is) c.as_slice.ensures c.requires.loaded c.get-journey.ensures c.as_slice-in-Some.ensures in
    on_ok_weaker c.add_turns.result (λ is. turns_added (plan_of c.args.loading.now) c.args.bucket c.args.vehicle c.as_slice.result.now c.as_slice-in-Some.result.now c.get-journey.result.now.arrival c.args.turns.now.items c.add_turns.new.turns.items c.requires.bucket gone is) c.add_turns.ensures

pub returns-in-None : goal.returns-in-None
returns-in-None c =
    none_added (plan_of c.args.loading.now) c.args.bucket (moves_of c.args.vehicle (trace_after (plan_of c.args.loading.now) c.args.loading.now.horizon)) c.args.turns.now.items
    (unrouted (plan_of c.args.loading.now) c.requires.sound c.args.vehicle (c.get.ensures ∙ ap (λ o. Some (option_copied o)) c.in-None.is))
