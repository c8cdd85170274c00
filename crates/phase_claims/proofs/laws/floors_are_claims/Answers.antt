use Rattle.phase_claims.proofs.Machines.{claims}
use Rattle.phase_claims.proofs.laws.floors_are_claims.Goals as goal

pub returns : goal.returns
returns c = claims
