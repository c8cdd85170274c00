use Rattle.std.proofs.Common.{◌≡◌, Ok, Result, ap}
use Rattle.std.specs.declared.alloc.AllocError.{AllocError}
use Rattle.audit.specs.declared.verdict.Verdict.{Verdict}
use Rattle.audit.specs.declared.verdict.Verdict.TheVariants.{Yes}
use Rattle.audit.proofs.trip_checks.check_trips.Goals as goal

abbrev ok_of : Verdict → Result Verdict AllocError
ok_of v = Ok v

same_ok : (a b : Verdict) → ok_of a ≡ ok_of b → a ≡ b
same_ok a b e = cc

pub returns-clause-routes : goal.returns-clause-routes
returns-clause-routes c e = c.in_ok-rows.ensures.routes (ap Ok (c.then.ensures.both (same_ok c.then.result Yes e)))
