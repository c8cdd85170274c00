use Rattle.assign_command.specs.Receipts.{silent}
use Rattle.dta_run.proofs.top_call.run_settings.Goals as goal

pub returns-then-alone-clause-means : goal.returns-then-alone-clause-means
returns-then-alone-clause-means g c = λ words told. (c.run_without_workers.ensures.headline words silent told).means
