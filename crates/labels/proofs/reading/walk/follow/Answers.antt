use Rattle.std.proofs.Common.{◌≡◌, ◌+◌, ◌<◌, [], ◌∷◌, ◌++◌, ap, sym, ◌∙◌, subst, arith, true, false}
use Rattle.trip_costs.specs.WalkCosts.{steps_in}
use Rattle.dta_model.specs.Plans.{link_numbers}
use Rattle.labels.specs.Filling.Labels.{far}
use Rattle.labels.specs.States.RouterWays.{state_of, is_own}
use Rattle.labels.specs.Filling.Tables.{rests}
use Rattle.labels.proofs.OfReading.Walks.{least_here, ends_here, step_of, append_nil, numbers_more, own_of, left_of}
use Rattle.labels.proofs.reading.walk.follow.Goals as goal

pub loop-router-init : goal.loop-router-init
loop-router-init c =
    let at = steps_in c.args.labels.now.costs in
    let first = c.args.first in
    let most = c.requires.timed.most first c.args.step c.requires.first in
    let none : c.clear.new.self.items ≡ [] = c.clear.ensures.items in (
      omega (arith, c.requires.first, c.requires.fit.links),
      c.requires.near,
      (let near = c.requires.near in let early = c.requires.step in omega (arith, near, early, most)),
      λ others f. (others, numbers_more c.clear.new.self.items c.push.new.self.items first others c.in_ok-push.ensures.items ∙ ap (λ ls. link_numbers ls ++ first ∷ others) none, f),
    )

pub next_way-way-requires-clause-left : goal.next_way-way-requires-clause-left
next_way-way-requires-clause-left c =
    let at = steps_in c.args.labels.now.costs in
    let rest = rests c.args.labels.now.table.now c.args.labels.now.place in
    let r = c.args.labels.now.router.now in
    let i = c.loop-router.invariant in
    let own : is_own r c.args.labels.now.zone (state_of r c.loop-router.link) ≡ false = own_of r c.args.labels.now.zone c.loop-router.link c.state.result c.is_in.result false c.state.ensures.is c.is_in.ensures c.loop-router-test.true in
    let least = least_here c.args.labels.now.net.now c.args.labels.now.zone at rest r c.requires.serves c.loop-router.link (c.loop-router.entry + c.steps.result) (i.0) own in
    left_of r rest at c.loop-router.link c.state-state.result (c.loop-router.entry + c.steps.result) c.rest_at-left.result c.ways_on.result.now c.state-state.ensures.is c.rest_at-left.ensures.is c.ways_on.ensures.are least
    (subst (λ x. rest (state_of r c.loop-router.link) (c.loop-router.entry + x) < far) (sym c.steps.ensures.is) (i.1))

pub loop-router-smaller : goal.loop-router-smaller
loop-router-smaller c =
    let at = steps_in c.args.labels.now.costs in
    let rest = rests c.args.labels.now.table.now c.args.labels.now.place in
    let r = c.args.labels.now.router.now in
    let i = c.loop-router.invariant in
    let own : is_own r c.args.labels.now.zone (state_of r c.loop-router.link) ≡ false = own_of r c.args.labels.now.zone c.loop-router.link c.state.result c.is_in.result false c.state.ensures.is c.is_in.ensures c.loop-router-test.true in
    let st = step_of c.args.labels.now.net.now c.args.labels.now.zone at rest r c.requires.serves c.loop-router.link c.loop-router.entry c.state-state.result c.steps.result c.rest_at-left.result c.ways_on.result.now (i.0) own (i.1) c.next_way-way.result c.state-state.ensures.is c.steps.ensures.is c.rest_at-left.ensures.is c.ways_on.ensures.are c.next_way-way.ensures in
    omega (arith, st.1, st.2)

pub loop-router-preserved : goal.loop-router-preserved
loop-router-preserved c =
    let at = steps_in c.args.labels.now.costs in
    let rest = rests c.args.labels.now.table.now c.args.labels.now.place in
    let r = c.args.labels.now.router.now in
    let i = c.loop-router.invariant in
    let own : is_own r c.args.labels.now.zone (state_of r c.loop-router.link) ≡ false = own_of r c.args.labels.now.zone c.loop-router.link c.state.result c.is_in.result false c.state.ensures.is c.is_in.ensures c.loop-router-test.true in
    let st = step_of c.args.labels.now.net.now c.args.labels.now.zone at rest r c.requires.serves c.loop-router.link c.loop-router.entry c.state-state.result c.steps.result c.rest_at-left.result c.ways_on.result.now (i.0) own (i.1) c.next_way-way.result c.state-state.ensures.is c.steps.ensures.is c.rest_at-left.ensures.is c.ways_on.ensures.are c.next_way-way.ensures in (
      st.0,
      omega (arith, st.1, i.1),
      omega (arith, st.1, i.2, c.steps.ensures.is),
      λ others f.
          let was = i.3 (c.next_way-way.result.link ∷ others) (st.3 others f) in
          (was.0, numbers_more c.loop-router.links.items c.push-in-loop-router.new.self.items c.next_way-way.result.link others c.in_ok-push-2.ensures.items ∙ was.1, was.2),
    )

pub returns : goal.returns
returns c =
    let r = c.args.labels.now.router.now in
    let i = c.loop-router.invariant in
    let own : is_own r c.args.labels.now.zone (state_of r c.loop-router.link) ≡ true = own_of r c.args.labels.now.zone c.loop-router.link c.state.result c.is_in.result true c.state.ensures.is c.is_in.ensures c.loop-router-test.false in
    let done = i.3 [] (ends_here c.args.labels.now.net.now c.args.labels.now.zone (steps_in c.args.labels.now.costs) (rests c.args.labels.now.table.now c.args.labels.now.place) r c.requires.serves c.loop-router.link c.loop-router.entry (i.0) own) in
    (done.0, sym (append_nil (link_numbers c.loop-router.links.items)) ∙ done.1, done.2)
