use Rattle.std.proofs.Common.{◌≡◌, ◌+◌, Some, rules, length, subst, arith, get_or}
use Rattle.std.proofs.lemmas.Option.{slice_get-get_or}
use Rattle.trip_costs.specs.WalkCosts.{enter_in, steps_in}
use Rattle.labels.specs.Reading.OfZone.{rest_to}
use Rattle.labels.specs.Reading.Searches.{FirstEnds}
use Rattle.labels.proofs.OfReading.FewestSearch.{state_within}
use Rattle.labels.proofs.OfReading.FewestFound.{count_small, fewest_is}
use Rattle.labels.proofs.reading.fewest.seek.Goals as goal

pub first_end-requires-clause-states : goal.first_end-requires-clause-states
first_end-requires-clause-states c k d small =
    let l = c.args.labels.now in
    let a = c.args.aim.now in
    let xs = c.loop-links.search.reached.items in
    let q = get_or xs k d in
    state_within l.net.now l.zone (steps_in l.costs) (rest_to l) l.router.now c.requires.serves (enter_in l.costs) a.firsts.now a.step a.least _ q (c.loop-links.invariant.begun k q (slice_get-get_or xs k d small))

pub returns-in-Some-clause-fewest : goal.returns-in-Some-clause-fewest
returns-in-Some-clause-fewest c =
    let l = c.args.labels.now in
    let a = c.args.aim.now in
    let xs = c.loop-links.search.reached.items in
    let place = c.in-Some.place in
    let f0 = subst (λ o. FirstEnds l.router.now l.zone xs c.loop-links.from c.len-to.result o) c.in-Some.is c.first_end.ensures in
    let all : c.len-to.result ≡ length xs = search (rules, c.len-to.ensures) in
    let f = subst (λ n. FirstEnds l.router.now l.zone xs c.loop-links.from n (Some place)) all f0 in
    fewest_is l.net.now l.zone (steps_in l.costs) (rest_to l) l.router.now c.requires.serves (enter_in l.costs) a.firsts.now a.step a.least xs c.loop-links.from (length xs) (c.loop-links.links + 1) place c.loop-links.invariant f c.requires.least

pub unreachable-requires : goal.unreachable-requires
unreachable-requires c =
    let l = c.args.labels.now in
    let a = c.args.aim.now in
    let xs = c.loop-links.search.reached.items in
    let few = count_small l.net.now l.zone (steps_in l.costs) (rest_to l) l.router.now c.requires.serves (enter_in l.costs) a.firsts.now a.step a.least xs c.loop-links.from (length xs) (c.loop-links.links + 1) (c.requires.least.some_walk.0) c.loop-links.invariant (c.requires.least.some_walk.1) in
    let many = c.loop-links-test.false in
    omega (arith, few, many)
