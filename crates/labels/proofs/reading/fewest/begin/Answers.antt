use Rattle.std.proofs.Common.{get_or}
use Rattle.std.proofs.lemmas.Option.{slice_get-get_or}
use Rattle.trip_costs.specs.WalkCosts.{enter_in, steps_in}
use Rattle.labels.specs.Reading.OfZone.{label_to}
use Rattle.labels.specs.States.RouterWays.{state_of}
use Rattle.labels.proofs.OfReading.FewestGrown.{started_more}
use Rattle.labels.proofs.reading.fewest.begin.Goals as goal

pub loop-link-preserved : goal.loop-link-preserved
loop-link-preserved c =
    let l = c.args.labels.now in
    let a = c.args.aim.now in
    let firsts = a.firsts.now in
    let count = c.loop-link.link-index in
    let first = get_or firsts count 0 in
    let stands = slice_get-get_or firsts count 0 c.loop-link-test.true in
    let i = c.loop-link.invariant in
    let tried = c.in_ok-begin_with.ensures in
    started_more (steps_in l.costs) (label_to l) (enter_in l.costs) (state_of l.router.now) firsts a.step a.least count first c.loop-link.search.reached.items stands i c.requires.rising c.begin_with.new.search.reached.items tried
