use Rattle.traffic_laws.proofs.Audited.{an_audit_says_yes}
use Rattle.traffic_laws.proofs.round_trips.an_audit_says_yes.Goals as goal

pub returns : goal.returns
returns c = an_audit_says_yes
