use Rattle.worked_cases.proofs.SoundChecked.{sound-checked}
use Rattle.worked_cases.proofs.case.Case.loading.Goals as goal

pub returns-clause-sound : goal.returns-clause-sound
returns-clause-sound c = rw c.as_slice.ensures.value (sound-checked _ c.self.invariant)
