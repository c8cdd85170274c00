use Rattle.std.proofs.Common.{ap}
use Rattle.desk_io.specs.declared.desk.Output.TheVariants as output
use Rattle.reports.specs.Texts.{agent_text}
use Rattle.assignment.specs.Lent.{settings_in, traffic_in}
use Rattle.assignment.proofs.AssignmentFacts.{many-journeys, on-net}
use Rattle.sweep.proofs.ScenarioFacts.{text-told}
use Rattle.sweep.proofs.scenario_texts.agent.Goals as goal

pub put_agents-put-requires-clause-few : goal.put_agents-put-requires-clause-few
put_agents-put-requires-clause-few c = c.requires.is.traffic.trips.in_order.few

pub put_agents-put-requires-clause-routes : goal.put_agents-put-requires-clause-routes
put_agents-put-requires-clause-routes c = c.requires.assigned.last.routed.each

pub put_agents-put-requires-clause-journeys : goal.put_agents-put-requires-clause-journeys
put_agents-put-requires-clause-journeys c =
    many-journeys (settings_in c.args.assignment.now) (traffic_in c.args.assignment.now) c.args.assigned.now.routes c.args.assigned.now.loaded
    c.requires.assigned.last.journeys

pub put_agents-put-requires-clause-on_net : goal.put_agents-put-requires-clause-on_net
put_agents-put-requires-clause-on_net c =
    on-net (traffic_in c.args.assignment.now) c.args.assigned.now.routes c.requires.assigned.last.routed

pub returns : goal.returns
returns c =
    let agents = agent_text c.args.assignment.now.net.now c.args.assignment.now.trips.now c.args.assigned.now.routes in
    text-told output.Agent (agents c.args.assigned.now.loaded) _ c.empty_desk-desk.result.taken c.put_agents-put.new.desk.taken c.put_agents-put.result c.taken_by.result
    (ap agents c.requires.assigned.last.journeys) c.empty_desk-desk.ensures c.put_agents-put.ensures.whole c.taken_by.ensures.put c.taken_by.ensures.taken
