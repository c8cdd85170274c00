use Rattle.phase_claims.proofs.Events.{events}
use Rattle.phase_claims.proofs.laws.steps_are_events.Goals as goal

pub returns : goal.returns
returns c = events
