use Rattle.std.proofs.lemmas.Result.{err_from_is_err_and}
use Rattle.sweep.proofs.TextFacts.{cut-at-waits, tables-put}
use Rattle.sweep.proofs.texts.put_tables.Goals as goal

pub returns-in_err-put_all : goal.returns-in_err-put_all
returns-in_err-put_all g c =
    let p = err_from_is_err_and c.from_residual-in_err-put_all.result c.from_residual-in_err-put_all.ensures.1 in
    rw p.1 (cut-at-waits c.args.it.now _ _ _ (g.D.Desk.state c.args.desk.now) (g.D.Desk.state c.put_both.new.desk) (g.D.Desk.state c.put_all.new.desk)
    c.in_ok-put_both.field-0 c.in_err-put_all.field-0.0 _ c.as_slice.ensures c.as_slice-2.ensures c.as_slice-3.ensures c.in_ok-put_both.ensures c.in_err-put_all.ensures)

pub returns : goal.returns
returns g c =
    tables-put c.args.it.now _ _ _ _ _
    (g.D.Desk.state c.args.desk.now) (g.D.Desk.state c.put_both.new.desk) (g.D.Desk.state c.put_all.new.desk) (g.D.Desk.state c.put_both-2.new.desk)
    c.in_ok-put_both.field-0 c.in_ok-put_all.field-0 c.put_both-2.result
    c.as_slice.ensures c.as_slice-2.ensures c.as_slice-3.ensures c.as_slice-4.ensures c.as_slice-5.ensures
    c.in_ok-put_both.ensures c.in_ok-put_all.ensures c.put_both-2.ensures
