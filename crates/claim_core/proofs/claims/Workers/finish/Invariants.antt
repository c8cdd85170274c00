use Rattle.dta_model.specs.Lent.{plan_of}
use Rattle.claim_core.specs.Parts.{stage_of}
use Rattle.claim_core.specs.Work.{AreAtStages}
use Rattle.claim_core.proofs.Finishing.{done_upto}
use Rattle.claim_core.proofs.claims.Workers.finish.Given as goal

-- the parts are at the stages that the work on the units before this one gave them
abbrev pub invariant-loop-number : goal.invariant-loop-number
invariant-loop-number l =
    AreAtStages (plan_of l.loading)
    (stage_of (plan_of l.loading) (done_upto (plan_of l.loading) l.fn.self l.first l.number))
    (record { cells = l.cells; mail = l.mail })
