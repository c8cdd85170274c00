use Rattle.start_table.specs.Starts.{TellsStart}
use Rattle.route_flows.proofs.Started.{Begun}
use Rattle.route_flows.proofs.starts.start_walks.Given as goal

abbrev pub invariant-loop-trip : goal.invariant-loop-trip
invariant-loop-trip l = Begun (λ v. TellsStart l.net l.start) l.trips l.trip-index l.walks.items
