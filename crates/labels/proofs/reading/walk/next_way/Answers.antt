use Rattle.std.proofs.Common.{subst}
use Rattle.trip_costs.specs.WalkCosts.{steps_in}
use Rattle.labels.specs.Filling.Labels.{far}
use Rattle.labels.specs.Filling.Rests.{over}
use Rattle.labels.specs.Reading.Serves.{FirstOver}
use Rattle.labels.specs.Filling.Tables.{rests}
use Rattle.labels.proofs.OfReading.Picks.{none_left, picked}
use Rattle.labels.proofs.reading.walk.next_way.Goals as goal

pub unreachable-requires : goal.unreachable-requires
unreachable-requires c =
    let at = steps_in c.args.labels.now.costs in
    let rest = rests c.args.labels.now.table.now c.args.labels.now.place in
    none_left at far rest c.args.ways.now c.args.step c.args.left (c.requires.left.0) (c.requires.left.1) (subst (λ r. FirstOver (over at far rest c.args.step) c.args.ways.now c.args.left r) c.in-None.is c.pick.ensures)

pub returns : goal.returns
returns c =
    let at = steps_in c.args.labels.now.costs in
    let rest = rests c.args.labels.now.table.now c.args.labels.now.place in
    picked at far rest c.args.ways.now c.args.step c.args.left (c.requires.left.0) (c.requires.left.1) c.in-Some.way (subst (λ r. FirstOver (over at far rest c.args.step) c.args.ways.now c.args.left r) c.in-Some.is c.pick.ensures)
