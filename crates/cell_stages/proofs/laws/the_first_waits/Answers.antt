use Rattle.cell_stages.proofs.Riders.{first_waits}
use Rattle.cell_stages.proofs.laws.the_first_waits.Goals as goal

pub returns : goal.returns
returns c = first_waits
