use Rattle.std.specs.Prelude.{option_copied}
use Rattle.std.proofs.Common.{◌<◌, length, ap, sym, ◌∙◌, subst, Some}
use Rattle.std.proofs.lemmas.List.{length-take-le}
use Rattle.dta_model.specs.Lent.{plan_of}
use Rattle.dta_model.specs.Loading.{trace_after}
use Rattle.dta_model.proofs.Ends.{journeys_many}
use Rattle.link_times.proofs.Gone.{gone_by, unrouted}
use Rattle.counts.proofs.Entered.{enters_along, enters_none}
use Rattle.counts.proofs.through.enters.Goals as goal

pub get-requires-in-Some : goal.get-requires-in-Some
get-requires-in-Some c = subst (λ n. c.args.vehicle < n) (sym (ap (λ L. length L) c.requires.loaded ∙ journeys_many (plan_of c.args.loading.now))) c.requires.vehicle

pub slice_bounds-is_among-end : goal.slice_bounds-is_among-end
slice_bounds-is_among-end c =
    let gone = gone_by (plan_of c.args.loading.now) c.requires.sound c.args.vehicle c.args.loaded.now _ c.as_slice.result.now c.get-in-Some.result.now c.as_slice-entered.result.now (c.get.ensures ∙ ap (λ o. Some (option_copied o)) c.in-Some.is) c.as_slice.ensures c.requires.loaded c.get-in-Some.ensures c.as_slice-entered.ensures in
    sym (length-take-le (length c.as_slice-entered.result.now) c.as_slice.result.now gone.within)

pub returns-in-Some : goal.returns-in-Some
returns-in-Some c =
    let gone = gone_by (plan_of c.args.loading.now) c.requires.sound c.args.vehicle c.args.loaded.now _ c.as_slice.result.now c.get-in-Some.result.now c.as_slice-entered.result.now (c.get.ensures ∙ ap (λ o. Some (option_copied o)) c.in-Some.is) c.as_slice.ensures c.requires.loaded c.get-in-Some.ensures c.as_slice-entered.ensures in
    c.is_among.ensures ∙ enters_along (plan_of c.args.loading.now) c.args.link.0 c.args.vehicle c.as_slice.result.now c.as_slice-entered.result.now c.get-in-Some.result.now.arrival gone

pub returns-in-None : goal.returns-in-None
returns-in-None c =
    enters_none c.args.link.0 c.args.vehicle (trace_after (plan_of c.args.loading.now) c.args.loading.now.horizon)
    (unrouted (plan_of c.args.loading.now) c.requires.sound c.args.vehicle (c.get.ensures ∙ ap (λ o. Some (option_copied o)) c.in-None.is))
