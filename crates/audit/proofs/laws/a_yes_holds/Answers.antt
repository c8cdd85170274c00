use Rattle.audit.proofs.Verdicts.{all_hold}
use Rattle.audit.proofs.laws.a_yes_holds.Goals as goal

pub returns : goal.returns
returns c = all_hold
