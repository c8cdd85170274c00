use Rattle.assignment.specs.Lent.{settings_in, traffic_in}
use Rattle.assignment.proofs.AssignmentFacts.{many-journeys, on-net}
use Rattle.commands.proofs.outputs.put_vehicles.Goals as goal

pub put_agents-requires-clause-journeys : goal.put_agents-requires-clause-journeys
put_agents-requires-clause-journeys g c =
    let a = c.args.assignment.now in
    many-journeys (settings_in a) (traffic_in a) c.args.it.now.last.routes c.args.it.now.last.loaded c.requires.last.journeys

pub put_agents-requires-clause-on_net : goal.put_agents-requires-clause-on_net
put_agents-requires-clause-on_net g c =
    on-net (traffic_in c.args.assignment.now) c.args.it.now.last.routes c.requires.last.routed

pub put_agents_from-requires-clause-journeys : goal.put_agents_from-requires-clause-journeys
put_agents_from-requires-clause-journeys g c =
    let a = c.args.assignment.now in
    many-journeys (settings_in a) (traffic_in a) c.args.it.now.last.routes c.args.it.now.last.loaded c.requires.last.journeys

pub put_agents_from-requires-clause-on_net : goal.put_agents_from-requires-clause-on_net
put_agents_from-requires-clause-on_net g c =
    on-net (traffic_in c.args.assignment.now) c.args.it.now.last.routes c.requires.last.routed
