use Rattle.cell_stages.proofs.NextLines.{waiting_lines_stay}
use Rattle.cell_stages.proofs.laws.waiting_lines_stay.Goals as goal

pub returns : goal.returns
returns c = waiting_lines_stay
