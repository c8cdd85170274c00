use Rattle.cell_stages.proofs.OnePass.{one_pass_is_enough}
use Rattle.cell_stages.proofs.laws.one_pass_is_enough.Goals as goal

pub returns : goal.returns
returns c = one_pass_is_enough
