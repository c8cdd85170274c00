use Rattle.gap.proofs.Determined.{lines_are_determined}
use Rattle.gap.proofs.laws.gap_lines_are_determined.Goals as goal

pub returns : goal.returns
returns c = lines_are_determined
