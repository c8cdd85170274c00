use Rattle.std.specs.Prelude.{option_copied}
use Rattle.std.proofs.Common.{◌<◌, length, ap, sym, ◌∙◌, subst, Some}
use Rattle.dta_model.specs.Lent.{plan_of}
use Rattle.dta_model.specs.Loading.{trace_after}
use Rattle.dta_model.proofs.Ends.{journeys_many}
use Rattle.final_state.proofs.ByJourney.{loaded_tells, unrouted_is}
use Rattle.final_state.proofs.whereabouts.whereabouts_of.Goals as goal

pub get-journey-requires : goal.get-journey-requires
get-journey-requires c = subst (λ n. c.args.vehicle < n) (sym (ap (λ L. length L) c.requires.loaded ∙ journeys_many (plan_of c.args.loading.now))) c.requires.vehicle

pub whereabouts_along-requires : goal.whereabouts_along-requires
whereabouts_along-requires c = (loaded_tells (plan_of c.args.loading.now) c.args.vehicle c.args.loaded.now _ _ c.get-journey.result.now _ (c.get.ensures ∙ ap (λ o. Some (option_copied o)) c.in-Some.is) c.as_slice.ensures c.requires.loaded c.get-journey.ensures c.as_slice-in-Some.ensures).within

pub returns-in-Some : goal.returns-in-Some
returns-in-Some c = c.whereabouts_along.ensures ∙ (loaded_tells (plan_of c.args.loading.now) c.args.vehicle c.args.loaded.now _ _ c.get-journey.result.now _ (c.get.ensures ∙ ap (λ o. Some (option_copied o)) c.in-Some.is) c.as_slice.ensures c.requires.loaded c.get-journey.ensures c.as_slice-in-Some.ensures).whereabouts

pub returns-in-None : goal.returns-in-None
returns-in-None c = unrouted_is (plan_of c.args.loading.now) (trace_after (plan_of c.args.loading.now) c.args.loading.now.horizon) c.args.vehicle (c.get.ensures ∙ ap (λ o. Some (option_copied o)) c.in-None.is)
