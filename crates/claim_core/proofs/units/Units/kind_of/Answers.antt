use Rattle.claim_core.proofs.ByPlace.{is_gather, is_posting, is_transfer}
use Rattle.claim_core.proofs.units.Units.kind_of.Goals as goal

pub returns-then-place-nodes : goal.returns-then-place-nodes
returns-then-place-nodes c = is_transfer c.args.self.nodes c.args.number c.in_step.result c.in_step.ensures c.if-place-nodes.true

pub returns-then-place-nodes-2 : goal.returns-then-place-nodes-2
returns-then-place-nodes-2 c = is_gather c.args.self.nodes c.args.number c.in_step.result c.in_step.ensures c.if-place-nodes.false c.if-place-nodes-2.true

pub returns-else-place-nodes-2 : goal.returns-else-place-nodes-2
returns-else-place-nodes-2 c = is_posting c.args.self.nodes c.args.number c.in_step.result c.in_step.ensures c.if-place-nodes-2.false
