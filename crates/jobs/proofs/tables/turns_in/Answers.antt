use Rattle.gmns_tables.proofs.NetFacts.{no-turns}
use Rattle.jobs.proofs.tables.turns_in.Goals as goal

pub returns-then-is_empty-clause-sound : goal.returns-then-is_empty-clause-sound
returns-then-is_empty-clause-sound c = no-turns
