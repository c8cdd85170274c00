use Rattle.std.proofs.Common.{refl, subst, sym}
use Rattle.loader.specs.Gates.{gate_of}
use Rattle.jobs.specs.Jobs.{IsJobOf}
use Rattle.jobs.specs.Kinds.{rows_in_job}
use Rattle.jobs.specs.Reading.{ReadState, Reading, reads_at}
use Rattle.jobs.specs.Stops.{Stops}
use Rattle.jobs.specs.declared.stop.Stop.{Stop}
use Rattle.dta_run.proofs.ReceiptFacts.{refused-gives, work-gives}
use Rattle.dta_run.proofs.RunFacts.{refused-means, works-means}
use Rattle.dta_run.proofs.accepted.accept_and_work.Goals as goal

pub returns-in-Ok-clause-means : goal.returns-in-Ok-clause-means
returns-in-Ok-clause-means g c = λ words told.
    let w = c.requires.works _ _ _ _ _ _ c.in-Ok.ensures.sound c.in-Ok.ensures.own c.work-status.ensures in
    works-means c.args.settings.now (rows_in_job c.in-Ok.job) (g.D.Desk.state c.args.desk.now) (g.D.Desk.state c.accept.new.desk) (g.D.Desk.state c.work-status.new.arg4)
    (record { in_range = c.requires.settings; sound = c.in-Ok.ensures.sound }) c.in-Ok.ensures.reads.taken (sym c.in-Ok.ensures.reads.puts) words c.work-status.result told
    c.in-Ok.ensures.reads.done (rw (w.left, w.reads) refl) w.work w.failed w.differs

pub returns-in-Err-Refused-clause-means : goal.returns-in-Err-Refused-clause-means
returns-in-Err-Refused-clause-means g c = λ words told.
    let s = c.args.settings.now in
    let cause = subst (λ (stop : Stop). Reading s.command (Stops s stop) (reads_at (g.D.Desk.state c.args.desk.now)) (reads_at (g.D.Desk.state c.accept.new.desk)))
    c.in-Err-Refused.field-0-is c.in-Err-Refused.ensures.reads.stops in
    rw (c.refuse.ensures.status) (refused-means words c.args.settings.now (g.D.Desk.state c.args.desk.now) (g.D.Desk.state c.accept.new.desk) (g.D.Desk.state c.refuse.new.desk) told
    c.in-Err-Refused.ensures.reads.taken (sym c.in-Err-Refused.ensures.reads.puts) (rw (c.refuse.ensures.left, c.refuse.ensures.reads) refl) c.in-Err-Refused.refusal
    cause c.refuse.ensures.report)

pub returns-in-Ok-clause-receipts : goal.returns-in-Ok-clause-receipts
returns-in-Ok-clause-receipts g c = λ words told.
    let w = c.requires.works _ _ _ _ _ _ c.in-Ok.ensures.sound c.in-Ok.ensures.own c.work-status.ensures in
    let gives = c.requires.receipts _ _ _ _ _ _ c.in-Ok.ensures.sound c.in-Ok.ensures.own c.work-status.ensures in
    let shown = gate_of g.G.Gate.closes g.G.Gate.last in
    work-gives words c.args.settings.now (rows_in_job c.in-Ok.job) c.work-status.result (g.D.Desk.state c.args.desk.now) (g.D.Desk.state c.work-status.new.arg4)
    (g.D.Desk.state c.accept.new.desk).taken (g.D.Desk.state c.work-status.new.arg4).taken
    (shown c.args.gate.now) (shown c.work-status.new.arg3) told
    (subst (λ (rest : ReadState). Reading c.args.settings.now.command (IsJobOf c.args.settings.now (rows_in_job c.in-Ok.job)) (reads_at (g.D.Desk.state c.args.desk.now)) rest)
    (rw (w.left, w.reads) refl) c.in-Ok.ensures.reads.done)
    w.work (λ found. (w.differs found).is) gives

pub returns-in-Err-Refused-clause-receipts : goal.returns-in-Err-Refused-clause-receipts
returns-in-Err-Refused-clause-receipts g c = λ words told.
    rw (c.refuse.ensures.status) (refused-gives words c.in-Err-Refused.refusal (g.D.Desk.state c.args.desk.now) (g.D.Desk.state c.refuse.new.desk)
    (gate_of g.G.Gate.closes g.G.Gate.last c.args.gate.now))
