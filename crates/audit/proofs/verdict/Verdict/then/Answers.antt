use Rattle.std.proofs.Common.{◌++◌, subst, sym}
use Rattle.audit.specs.Checks.{IsVerdict}
use Rattle.audit.proofs.Verdicts.{no_then, yes_then}
use Rattle.audit.proofs.verdict.Verdict.then.Goals as goal

pub returns-in-Yes-clause-verdict : goal.returns-in-Yes-clause-verdict
returns-in-Yes-clause-verdict c xs ys h k = yes_then xs ys c.args.later (subst (λ v. IsVerdict xs v) c.in-Yes.is h) k

pub returns-in-No-clause-verdict : goal.returns-in-No-clause-verdict
returns-in-No-clause-verdict c xs ys h k =
    subst (λ v. IsVerdict (xs ++ ys) v) (sym c.in-No.is)
    (no_then xs ys c.in-No.table c.in-No.line c.in-No.column (subst (λ v. IsVerdict xs v) c.in-No.is h))
