use Rattle.reference.proofs.TextsFacts.{each_job_has_its_texts}
use Rattle.reference.proofs.laws.each_job_has_its_texts.Goals as goal

pub returns : goal.returns
returns c = each_job_has_its_texts
