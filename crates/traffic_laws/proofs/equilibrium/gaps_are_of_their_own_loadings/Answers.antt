use Rattle.traffic_laws.proofs.GapFacts.{gaps_are_of_their_loadings}
use Rattle.traffic_laws.proofs.equilibrium.gaps_are_of_their_own_loadings.Goals as goal

pub returns : goal.returns
returns c = gaps_are_of_their_loadings
