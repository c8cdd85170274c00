use Rattle.labels.proofs.OfStates.StateFacts.{AreLed_more}
use Rattle.labels.proofs.states.link_states.states_of.Goals as goal

pub loop-link-preserved : goal.loop-link-preserved
loop-link-preserved c = (
  AreLed_more c.args.net.now c.loop-link.of.items c.push.new.self.items c.loop-link.leads.links.items c.state_for.new.self.links.items c.loop-link.link c.in_ok-state_for.field-0 c.in_ok-push.ensures.items c.in_ok-state_for.ensures.grown c.in_ok-state_for.ensures.led (c.loop-link.invariant.0),
  c.in_ok-state_for.ensures.nodes,
)
