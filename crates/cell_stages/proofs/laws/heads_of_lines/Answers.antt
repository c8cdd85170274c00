use Rattle.cell_stages.proofs.Lines.{heads_of_lines}
use Rattle.cell_stages.proofs.laws.heads_of_lines.Goals as goal

pub returns : goal.returns
returns c = heads_of_lines
