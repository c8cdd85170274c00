use Rattle.claim_core.proofs.ByPlace.{starts_first, starts_last, starts_mid}
use Rattle.claim_core.proofs.units.Units.phase_start.Goals as goal

pub returns-then-place-nodes : goal.returns-then-place-nodes
returns-then-place-nodes c = starts_first c.args.self.nodes c.args.number c.in_step.result c.in_step.ensures c.if-place-nodes.true

pub returns-then-place-nodes-2 : goal.returns-then-place-nodes-2
returns-then-place-nodes-2 c = starts_mid c.args.self.nodes c.args.number c.in_step.result c.in_step.ensures c.if-place-nodes.false c.if-place-nodes-2.true

pub returns-else-place-nodes-2 : goal.returns-else-place-nodes-2
returns-else-place-nodes-2 c = starts_last c.args.self.nodes c.args.number c.in_step.result c.in_step.ensures c.if-place-nodes-2.false
