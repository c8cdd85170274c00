use Rattle.cell_stages.proofs.Gathering.{lines_gather}
use Rattle.cell_stages.proofs.laws.lines_gather.Goals as goal

pub returns : goal.returns
returns c = lines_gather
