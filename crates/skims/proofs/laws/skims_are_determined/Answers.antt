use Rattle.skims.proofs.Determined.{skims_are_determined as same_skims}
use Rattle.skims.proofs.laws.skims_are_determined.Goals as goal

pub returns : goal.returns
returns c = same_skims
