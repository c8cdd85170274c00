use Rattle.labels.specs.States.LinkStates.{AreAtNodes, AreLed}
use Rattle.labels.proofs.states.link_states.states_of.Given as goal

abbrev pub invariant-loop-link : goal.invariant-loop-link
invariant-loop-link l = AreLed l.net l.of.items l.leads.links.items l.link × AreAtNodes l.net l.leads.links.items l.leads.at_node.items
