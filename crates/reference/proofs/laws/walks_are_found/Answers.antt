use Rattle.reference.proofs.Searched.{walks_are_found}
use Rattle.reference.proofs.laws.walks_are_found.Goals as goal

pub returns : goal.returns
returns c = walks_are_found
