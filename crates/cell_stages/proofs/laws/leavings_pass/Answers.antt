use Rattle.cell_stages.proofs.LeftLately.{leavings_pass}
use Rattle.cell_stages.proofs.laws.leavings_pass.Goals as goal

pub returns : goal.returns
returns c = leavings_pass
