use Rattle.std.proofs.Common.{inl, inr, refl}
use Rattle.dta_model.specs.Lent.{plan_of}
use Rattle.phase_claims.proofs.Told.{point_keeps}
use Rattle.phase_claims.proofs.work_told.tell_own.Goals as goal

pub returns-in-Point-clause-seat : goal.returns-in-Point-clause-seat
returns-in-Point-clause-seat c = record { table = refl; view = refl; still = λ n one. one }

pub returns-in-Point-clause-own : goal.returns-in-Point-clause-own
returns-in-Point-clause-own c = inl (point_keeps (plan_of c.args.loading.now) c.args.half.node.0 c.args.half.step c.in-Point.is)

pub returns-clause-own : goal.returns-clause-own
returns-clause-own c = inr c.tell.ensures.told
