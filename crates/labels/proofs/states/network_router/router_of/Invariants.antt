use Rattle.labels.specs.States.Onwards.{AreOnwards}
use Rattle.labels.proofs.states.network_router.router_of.Given as goal

abbrev pub invariant-loop-lead : goal.invariant-loop-lead
invariant-loop-lead l = AreOnwards l.net l.of.items l.lead-items l.starts.items l.ways.items l.zones.items l.lead-index
