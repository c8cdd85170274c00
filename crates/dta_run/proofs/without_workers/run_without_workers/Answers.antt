use Rattle.assign_command.specs.Receipts.{silent}
use Rattle.dta_run.proofs.ReceiptFacts.{alone-headline}
use Rattle.dta_run.proofs.without_workers.run_without_workers.Goals as goal

pub returns-clause-headline : goal.returns-clause-headline
returns-clause-headline g c = λ words gate told.
    let e = c.accept_and_work.ensures in
    alone-headline words c.args.settings.now c.accept_and_work.result (g.D.Desk.state c.args.desk.now) (g.D.Desk.state c.accept_and_work.new.desk) silent silent gate
    told c.requires.alone (e.means words told) (e.receipts words told) e.reads e.puts
