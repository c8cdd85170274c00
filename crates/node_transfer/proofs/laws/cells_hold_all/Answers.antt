use Rattle.node_transfer.proofs.OfHandOver.HandOver.{cells_hold_all}
use Rattle.node_transfer.proofs.laws.cells_hold_all.Goals as goal

pub returns : goal.returns
returns c = cells_hold_all
