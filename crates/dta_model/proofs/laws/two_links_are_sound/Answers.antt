use Rattle.dta_model.proofs.SoundCase.{two_links_are_sound}
use Rattle.dta_model.proofs.laws.two_links_are_sound.Goals as goal

pub returns : goal.returns
returns c = two_links_are_sound
