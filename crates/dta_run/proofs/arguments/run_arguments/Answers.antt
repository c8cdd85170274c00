use Rattle.assign_command.specs.Receipts.{silent}
use Rattle.dta_run.proofs.ReceiptFacts.{starved}
use Rattle.dta_run.proofs.arguments.run_arguments.Goals as goal

pub returns-in-Err : goal.returns-in-Err
returns-in-Err g c = record { headline = starved _ _ silent }
