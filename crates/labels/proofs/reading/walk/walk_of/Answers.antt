use Rattle.std.proofs.Common.{◌+◌, ◌-◌, ◌<◌, length, subst, sym, ◌∙◌}
use Rattle.trip_costs.specs.WalkCosts.{enter_in, steps_in}
use Rattle.dta_model.specs.Plans.{link_numbers}
use Rattle.labels.specs.Reading.OfZone.{first_to}
use Rattle.labels.specs.Reading.Paths.{IsChosenPath}
use Rattle.labels.specs.States.Routers.{ways_to}
use Rattle.labels.specs.Reading.Serves.{label_in, BestSoFar, IsFollowed}
use Rattle.labels.specs.Filling.Tables.{rests}
use Rattle.labels.proofs.OfReading.Leasts.{least_of, near_of, none_of}
use Rattle.labels.proofs.Basics.{after_more}
use Rattle.labels.specs.Filling.Labels.{far}
use Rattle.labels.specs.States.RouterWays.{state_of}
use Rattle.labels.proofs.OfReading.Chosens.{chosen_of}
use Rattle.labels.proofs.reading.walk.walk_of.Goals as goal

pub follow-requires-clause-near : goal.follow-requires-clause-near
follow-requires-clause-near c =
    let l = c.args.labels.now in
    let at = steps_in l.costs in
    let enter = enter_in l.costs in
    let rest = rests l.table.now l.place in
    let r = l.router.now in
    let f = c.in-Some.first in
    let best = subst (λ o. BestSoFar (first_to l c.args.step) c.args.firsts.now (length c.args.firsts.now) o) c.in-Some.is c.best_of.ensures in
    let j = after_more (enter f.link c.args.step - c.args.step) f.time (label_in at rest r f.link (enter f.link c.args.step)) best.gives in
    subst (λ e. rest (state_of r f.link) (e + at f.link e) < far) (sym c.enter-entry.ensures.is)
    (near_of l.net.now l.zone at rest r c.requires.serves f.link (enter f.link c.args.step) (j.0) (j.1)).0

pub returns-in-None : goal.returns-in-None
returns-in-None c begins are =
    let l = c.args.labels.now in
    let firsts = c.args.firsts.now in
    none_of l.net.now l.zone (steps_in l.costs) (rests l.table.now l.place) l.router.now c.requires.serves (enter_in l.costs) begins firsts are c.args.step
    (subst (λ o. BestSoFar (first_to l c.args.step) firsts (length firsts) o) c.in-None.is c.best_of.ensures)

pub returns-in_ok-from_slice-in-Some : goal.returns-in_ok-from_slice-in-Some
returns-in_ok-from_slice-in-Some c begins are =
    let l = c.args.labels.now in
    let at = steps_in l.costs in
    let enter = enter_in l.costs in
    let rest = rests l.table.now l.place in
    let r = l.router.now in
    let firsts = c.args.firsts.now in
    let f = c.in-Some.first in
    let best = subst (λ o. BestSoFar (first_to l c.args.step) firsts (length firsts) o) c.in-Some.is c.best_of.ensures in
    let followed = subst (λ e. IsFollowed (ways_to at l.net.now l.zone) (label_in at rest r) f.link e (link_numbers c.follow.new.links.items)) c.enter-entry.ensures.is c.in_ok-follow-in-Some.ensures in
    let chosen = chosen_of l.net.now l.zone at rest r c.requires.serves enter begins firsts are c.args.step f.time f.link (link_numbers c.follow.new.links.items) c.requires.rising best followed in
    let copied = c.of-route.ensures ∙ c.in_ok-from_slice-in-Some.ensures.items ∙ c.deref.ensures.value in (
      least_of l.net.now l.zone at rest r c.requires.serves enter begins firsts are c.args.step f.link f.time best,
      subst (λ ls. IsChosenPath (ways_to at l.net.now l.zone) enter begins c.args.step (link_numbers ls)) (sym copied) chosen,
    )
