use Rattle.cell_stages.proofs.Passing.{moves_pass}
use Rattle.cell_stages.proofs.laws.moves_pass.Goals as goal

pub returns : goal.returns
returns c = moves_pass
