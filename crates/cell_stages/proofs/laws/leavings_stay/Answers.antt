use Rattle.cell_stages.proofs.LeftLately.{leavings_stay}
use Rattle.cell_stages.proofs.laws.leavings_stay.Goals as goal

pub returns : goal.returns
returns c = leavings_stay
