use Rattle.cell_stages.proofs.Lines.{riders_move}
use Rattle.cell_stages.proofs.laws.riders_move.Goals as goal

pub returns : goal.returns
returns c = riders_move
