use Rattle.cell_stages.proofs.TwoStages.{steps_have_two_stages}
use Rattle.cell_stages.proofs.laws.steps_have_two_stages.Goals as goal

pub returns : goal.returns
returns c = steps_have_two_stages
