use Rattle.std.proofs.Common.{◌≡◌, suc, ◌+◌, ◌<◌, length, refl, sym, subst, arith}
use Rattle.std.proofs.lemmas.Option.{slice_get_read}
use Rattle.trip_costs.specs.WalkCosts.{enter_in, steps_in}
use Rattle.labels.specs.Filling.Labels.{far}
use Rattle.labels.specs.Filling.Rests.{AreOrdered}
use Rattle.labels.specs.Reading.Fewest.{IsGoneOn}
use Rattle.labels.specs.Reading.OfZone.{rest_to}
use Rattle.labels.specs.Reading.SearchesTo.{IsSearchedTo}
use Rattle.labels.proofs.OfReading.FewestSearch.{state_within, searched_more, none_more}
use Rattle.labels.proofs.reading.fewest.go_on_all.Goals as goal

pub rest_at-left-requires-clause-state : goal.rest_at-left-requires-clause-state
rest_at-left-requires-clause-state c =
    let l = c.args.labels.now in
    let a = c.args.aim.now in
    let xs = c.loop-place.search.reached.items in
    let S = c.loop-place.invariant.1 in
    let w = S.within in
    let low = c.loop-place-test.true in
    let inside : c.loop-place.place < length xs = omega (arith, w.1, low) in
    let e = slice_get_read xs (length xs) c.loop-place.place c.index-here.result.now refl inside c.index-here.ensures in
    let b = S.begun c.loop-place.place c.index-here.result.now e in
    let small = state_within l.net.now l.zone (steps_in l.costs) (rest_to l) l.router.now c.requires.serves (enter_in l.costs) a.firsts.now a.step a.least _ c.index-here.result.now b in
    let fit = c.requires.fit.states in
    omega (arith, small, fit)

pub ways_on-ways-requires : goal.ways_on-ways-requires
ways_on-ways-requires c =
    let l = c.args.labels.now in
    let a = c.args.aim.now in
    let xs = c.loop-place.search.reached.items in
    let S = c.loop-place.invariant.1 in
    let w = S.within in
    let low = c.loop-place-test.true in
    let inside : c.loop-place.place < length xs = omega (arith, w.1, low) in
    let e = slice_get_read xs (length xs) c.loop-place.place c.index-here.result.now refl inside c.index-here.ensures in
    let b = S.begun c.loop-place.place c.index-here.result.now e in
    state_within l.net.now l.zone (steps_in l.costs) (rest_to l) l.router.now c.requires.serves (enter_in l.costs) a.firsts.now a.step a.least _ c.index-here.result.now b

pub go_on-requires-clause-step : goal.go_on-requires-clause-step
go_on-requires-clause-step c =
    let xs = c.loop-place.search.reached.items in
    let S = c.loop-place.invariant.1 in
    let w = S.within in
    let low = c.loop-place-test.true in
    let inside : c.loop-place.place < length xs = omega (arith, w.1, low) in
    let e = slice_get_read xs (length xs) c.loop-place.place c.index-here.result.now refl inside c.index-here.ensures in
    let b = S.begun c.loop-place.place c.index-here.result.now e in
    let soon = b.soon in
    let near = c.args.aim.now.near in
    omega (arith, soon, near)

pub go_on-requires-clause-ordered : goal.go_on-requires-clause-ordered
go_on-requires-clause-ordered c =
    let l = c.args.labels.now in
    let a = c.args.aim.now in
    let xs = c.loop-place.search.reached.items in
    let S = c.loop-place.invariant.1 in
    let w = S.within in
    let low = c.loop-place-test.true in
    let inside : c.loop-place.place < length xs = omega (arith, w.1, low) in
    let e = slice_get_read xs (length xs) c.loop-place.place c.index-here.result.now refl inside c.index-here.ensures in
    let b = S.begun c.loop-place.place c.index-here.result.now e in
    let small = state_within l.net.now l.zone (steps_in l.costs) (rest_to l) l.router.now c.requires.serves (enter_in l.costs) a.firsts.now a.step a.least _ c.index-here.result.now b in
    subst (λ ws. AreOrdered ws) (sym c.ways_on-ways.ensures.are) (c.requires.serves.routes.ordered c.index-here.result.now.state small)

pub loop-place-preserved : goal.loop-place-preserved
loop-place-preserved c =
    let l = c.args.labels.now in
    let a = c.args.aim.now in
    let at = steps_in l.costs in
    let rest = rest_to l in
    let r = l.router.now in
    let xs = c.loop-place.search.reached.items in
    let new = c.go_on.new.search.reached.items in
    let place = c.loop-place.place in
    let here = c.index-here.result.now in
    let i = c.loop-place.invariant in
    let S = i.1 in
    let w = S.within in
    let low = c.loop-place-test.true in
    let inside : place < length xs = omega (arith, w.1, low) in
    let e = slice_get_read xs (length xs) place here refl inside c.index-here.ensures in
    let G0 = subst (λ x. IsGoneOn at far rest place here.step x c.ways_on-ways.result.now (length c.ways_on-ways.result.now) xs new) c.rest_at-left.ensures.is c.in_ok-go_on.ensures in
    let G = subst (λ ws. IsGoneOn at far rest place here.step (rest here.state here.step) ws (length ws) xs new) c.ways_on-ways.ensures.are G0 in
    let out = i.2 place here (i.0) low e in
    let one : suc place ≡ place + 1 = omega arith in
    let from = i.0 in (
      omega (arith, from),
      subst (λ n. IsSearchedTo l a.firsts.now a.step a.least new n c.args.layer.now.to c.args.layer.now.links) one
          (searched_more l.net.now l.zone at rest r c.requires.serves (enter_in l.costs) a.firsts.now a.step a.least xs new place c.args.layer.now.to c.args.layer.now.links here S e low out G),
      none_more l.net.now l.zone at rest r c.requires.serves (enter_in l.costs) a.firsts.now a.step a.least xs new place c.args.layer.now.to c.args.layer.now.links here S e low out G c.args.layer.now.from (i.2),
    )
