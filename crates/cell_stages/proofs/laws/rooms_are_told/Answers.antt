use Rattle.cell_stages.proofs.MailTells.{rooms_are_told}
use Rattle.cell_stages.proofs.laws.rooms_are_told.Goals as goal

pub returns : goal.returns
returns c = rooms_are_told
