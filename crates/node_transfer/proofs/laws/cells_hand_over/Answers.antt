use Rattle.node_transfer.proofs.OfHandOver.HandOver.{cells_hand_over}
use Rattle.node_transfer.proofs.laws.cells_hand_over.Goals as goal

pub returns : goal.returns
returns c = cells_hand_over
