use Rattle.worked_cases.proofs.NetChecked.{net-checked}
use Rattle.worked_cases.proofs.written.network.Goals as goal

pub of-requires : goal.of-requires
of-requires c = rw (
  c.in_ok-nodes.ensures.items,
  c.in_ok-links.ensures.items,
  c.in_ok-turns.ensures.items,
) (net-checked _ c.requires)
