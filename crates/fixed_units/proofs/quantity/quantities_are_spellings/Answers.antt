use Rattle.fixed_units.proofs.Spellings.{spellings-are-read, quantities-are-spelled}
use Rattle.fixed_units.proofs.quantity.quantities_are_spellings.Goals as goal

pub returns-clause-read : goal.returns-clause-read
returns-clause-read c = spellings-are-read

pub returns-clause-spelled : goal.returns-clause-spelled
returns-clause-spelled c = quantities-are-spelled
