use Rattle.std.specs.Prelude.{option_copied}
use Rattle.desk_io.specs.declared.desk.Output.TheVariants as output
use Rattle.pending_text.proofs.SendingFacts.{adds-then}
use Rattle.reports.specs.Texts.{agent_columns, agent_line, line_end}
use Rattle.reports.proofs.agents.add_agent.Goals as goal

pub returns : goal.returns
unfolding agent_line
returns g c =
    let agent = c.args.agent.now in
    let route = option_copied agent.route in
    adds-then output.Agent (agent_columns c.args.net.now agent.trip.now route agent.journey.now) (line_end route agent.iteration) _ _ _ _ _ _ _ c.add_end.result c.in_ok-add_columns.ensures c.add_end.ensures
