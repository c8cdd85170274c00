use Rattle.std.proofs.Common.{◌≡◌, length, ap, sym, ◌∙◌, subst}
use Rattle.std.proofs.lemmas.Option.{slice_get_within}
use Rattle.dta_model.specs.Plans.{link_numbers}
use Rattle.trip_costs.specs.WalkCosts.{enter_in, steps_in}
use Rattle.labels.specs.Reading.Fewest.{path_to}
use Rattle.labels.specs.Reading.OfZone.{first_to, rest_to, ways_in}
use Rattle.labels.specs.Reading.Paths.{IsFewestPath}
use Rattle.labels.specs.Reading.Searches.{is_among}
use Rattle.labels.specs.Reading.Serves.{BestSoFar}
use Rattle.labels.proofs.OfReading.Leasts.{least_of, none_of}
use Rattle.labels.proofs.OfReading.FewestFound.{among_firsts, fewest_begins, searched_first}
use Rattle.labels.proofs.reading.fewest.fewest_walk_of.Goals as goal

pub seek-requires-clause-least : goal.seek-requires-clause-least
seek-requires-clause-least c =
    let l = c.args.labels.now in
    let firsts = c.args.firsts.now in
    least_of l.net.now l.zone (steps_in l.costs) (rest_to l) l.router.now c.requires.serves (enter_in l.costs) (is_among firsts) firsts (among_firsts firsts) c.args.step c.in-Some.first.link c.in-Some.first.time
    (subst (λ o. BestSoFar (first_to l c.args.step) firsts (length firsts) o) c.in-Some.is c.best_of.ensures)

pub seek-requires-clause-searched : goal.seek-requires-clause-searched
seek-requires-clause-searched c =
    let l = c.args.labels.now in
    let firsts = c.args.firsts.now in
    let h = subst (λ o. BestSoFar (first_to l c.args.step) firsts (length firsts) o) c.in-Some.is c.best_of.ensures in
    searched_first l.net.now l.zone (steps_in l.costs) (rest_to l) l.router.now c.requires.serves (enter_in l.costs) firsts c.args.step c.in-Some.first.time c.begin.new.search.reached.items c.in_ok-begin-in-Some.ensures
    (λ k n x e q. h.least k n x (slice_get_within firsts k n e) e q)

pub returns-in-None : goal.returns-in-None
returns-in-None c begins are =
    let l = c.args.labels.now in
    let firsts = c.args.firsts.now in
    none_of l.net.now l.zone (steps_in l.costs) (rest_to l) l.router.now c.requires.serves (enter_in l.costs) begins firsts are c.args.step
    (subst (λ o. BestSoFar (first_to l c.args.step) firsts (length firsts) o) c.in-None.is c.best_of.ensures)

pub returns-in_ok-from_slice-in-Some : goal.returns-in_ok-from_slice-in-Some
returns-in_ok-from_slice-in-Some c begins are =
    let l = c.args.labels.now in
    let firsts = c.args.firsts.now in
    let place = c.in_ok-place-in-Some.place in
    let copied = c.of-route.ensures ∙ c.in_ok-from_slice-in-Some.ensures.items ∙ c.deref-in-Some.ensures.value in
    let path : link_numbers c.of-route.result ≡ path_to c.seek.new.search.reached.items place = ap (λ ls. link_numbers ls) copied ∙ c.in_ok-links_back-in-Some.ensures ∙ ap (λ xs. path_to xs place) c.deref.ensures.value in
    let best = subst (λ o. BestSoFar (first_to l c.args.step) firsts (length firsts) o) c.in-Some.is c.best_of.ensures in (
      least_of l.net.now l.zone (steps_in l.costs) (rest_to l) l.router.now c.requires.serves (enter_in l.costs) begins firsts are c.args.step c.in-Some.first.link c.in-Some.first.time best,
      fewest_begins (ways_in l) (enter_in l.costs) begins firsts are c.args.step (link_numbers c.of-route.result)
          (subst (λ w. IsFewestPath (ways_in l) (enter_in l.costs) (is_among firsts) c.args.step w) (sym path) c.in_ok-place-in-Some.ensures.fewest),
    )
