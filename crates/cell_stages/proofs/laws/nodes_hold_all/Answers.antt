use Rattle.cell_stages.proofs.HandOver.{nodes_hold_all}
use Rattle.cell_stages.proofs.laws.nodes_hold_all.Goals as goal

pub returns : goal.returns
returns c = nodes_hold_all
