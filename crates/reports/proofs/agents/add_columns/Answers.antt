use Rattle.std.proofs.Common.{[]}
use Rattle.std.specs.Prelude.{None}
use Rattle.desk_io.specs.declared.desk.Output.TheVariants as output
use Rattle.pending_text.proofs.SendingFacts.{adds-then}
use Rattle.reports.specs.Texts.{agent_columns, trip_columns, way_columns}
use Rattle.reports.specs.declared.status.AgentStatus.TheVariants.{Unrouted}
use Rattle.reports.proofs.TextsFacts.{columns-added}
use Rattle.reports.proofs.agents.add_columns.Goals as goal

pub returns-in_ok-add_trip-in-None : goal.returns-in_ok-add_trip-in-None
unfolding agent_columns
returns-in_ok-add_trip-in-None g c =
    rw c.in-None.is
    (adds-then output.Agent (trip_columns c.args.agent.now.trip.now None Unrouted) (way_columns [] []) _ _ _ _ _ _ _ c.add_way.result c.in_ok-add_trip-in-None.ensures c.add_way.ensures)

pub returns-in_ok-add_trip-in-Some : goal.returns-in_ok-add_trip-in-Some
returns-in_ok-add_trip-in-Some g c =
    rw c.in-Some.is
    (columns-added c.args.net.now c.args.agent.now.trip.now c.in-Some.route.now c.as_slice.result.now c.args.agent.now.journey.now c.status_of.result c.as_slice-in-Some.result.now _ _ _ _ _ _ _ c.add_way-in-Some.result
    c.status_of.ensures c.as_slice.ensures c.as_slice-in-Some.ensures c.in_ok-add_trip-in-Some.ensures c.add_way-in-Some.ensures)
