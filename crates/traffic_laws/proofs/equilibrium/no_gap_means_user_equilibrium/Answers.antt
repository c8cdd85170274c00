use Rattle.traffic_laws.proofs.GapFacts.{no_gap_is_equilibrium}
use Rattle.traffic_laws.proofs.equilibrium.no_gap_means_user_equilibrium.Goals as goal

pub returns : goal.returns
returns c = no_gap_is_equilibrium
