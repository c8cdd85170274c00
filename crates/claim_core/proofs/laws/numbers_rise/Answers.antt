use Rattle.claim_core.proofs.Always.{numbers_rise}
use Rattle.claim_core.proofs.laws.numbers_rise.Goals as goal

pub returns : goal.returns
returns c = numbers_rise
