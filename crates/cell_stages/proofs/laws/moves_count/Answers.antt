use Rattle.cell_stages.proofs.Passing.{moves_count}
use Rattle.cell_stages.proofs.laws.moves_count.Goals as goal

pub returns : goal.returns
returns c = moves_count
