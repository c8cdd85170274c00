use Rattle.cell_stages.proofs.Riders.{riders_tell}
use Rattle.cell_stages.proofs.laws.riders_tell.Goals as goal

pub returns : goal.returns
returns c = riders_tell
