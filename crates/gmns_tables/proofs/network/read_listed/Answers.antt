use Rattle.gmns_tables.proofs.NetFacts.{no-turns}
use Rattle.gmns_tables.proofs.network.read_listed.Goals as goal

pub returns-in-None-clause-sound : goal.returns-in-None-clause-sound
returns-in-None-clause-sound c = no-turns
