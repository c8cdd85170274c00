use Rattle.dta_run.proofs.EqualRuns.{equal_runs}
use Rattle.dta_run.proofs.laws.equal_runs_write_equal_texts.Goals as goal

pub returns : goal.returns
returns c = equal_runs
