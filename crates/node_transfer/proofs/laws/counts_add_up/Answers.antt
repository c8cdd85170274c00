use Rattle.node_transfer.proofs.OfCounts.AddUp.{counts_add_up}
use Rattle.node_transfer.proofs.laws.counts_add_up.Goals as goal

pub returns : goal.returns
returns c = counts_add_up
