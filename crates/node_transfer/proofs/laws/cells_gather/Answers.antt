use Rattle.node_transfer.proofs.OfStep.Gather.{cells_gather}
use Rattle.node_transfer.proofs.laws.cells_gather.Goals as goal

pub returns : goal.returns
returns c = cells_gather
