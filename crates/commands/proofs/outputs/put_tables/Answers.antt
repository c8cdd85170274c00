use Rattle.std.proofs.Common.{ap, ◌∙◌}
use Rattle.trip_costs.specs.Costs.{times_in}
use Rattle.assignment.specs.Lent.{settings_in, traffic_in}
use Rattle.assignment.proofs.AssignmentFacts.{free-of}
use Rattle.commands.proofs.outputs.put_tables.Goals as goal

pub put_link_times-requires : goal.put_link_times-requires
put_link_times-requires g c =
    let a = c.args.assignment.now in
    ap (λ t. t.free) c.times.ensures
    ∙ free-of (settings_in a) (traffic_in a) c.args.it.now.last.routes (times_in c.args.it.now.last.costs) c.requires.last.times_are
