use Rattle.cell_stages.proofs.LeftLately.{rooms_add_up}
use Rattle.cell_stages.proofs.laws.rooms_add_up.Goals as goal

pub returns : goal.returns
returns c = rooms_add_up
