use Rattle.std.proofs.Common.{get_or}
use Rattle.std.proofs.lemmas.Option.{slice_get-get_or}
use Rattle.labels.specs.Filling.Labels.{far}
use Rattle.labels.specs.Reading.OfZone.{rest_to}
use Rattle.trip_costs.specs.WalkCosts.{steps_in}
use Rattle.labels.specs.declared.states.onward.Onward.{Onward}
use Rattle.labels.proofs.OfReading.FewestGrown.{gone_none, gone_more}
use Rattle.labels.proofs.reading.fewest.go_on.Goals as goal

pub loop-way-init : goal.loop-way-init
loop-way-init c = gone_none (steps_in c.args.labels.now.costs) far (rest_to c.args.labels.now) c.args.stand.now.place c.args.stand.now.step c.args.stand.now.left c.args.ways.now c.args.search.now.reached.items

pub loop-way-preserved : goal.loop-way-preserved
loop-way-preserved c =
    let d : Onward = record { wait = 0; link = 0; to = 0 } in
    let ways = c.args.ways.now in
    let i = c.loop-way.way-index in
    gone_more (steps_in c.args.labels.now.costs) far (rest_to c.args.labels.now) c.args.stand.now.place c.args.stand.now.step c.args.stand.now.left ways c.args.search.now.reached.items
    i (get_or ways i d) c.loop-way.search.reached.items c.requires.ordered (slice_get-get_or ways i d c.loop-way-test.true) c.loop-way.invariant c.go_by.new.search.reached.items c.in_ok-go_by.ensures
