use Rattle.traffic_laws.proofs.GapFacts.{gap_is_never_negative}
use Rattle.traffic_laws.proofs.equilibrium.the_gap_is_never_negative.Goals as goal

pub returns : goal.returns
returns c = gap_is_never_negative
