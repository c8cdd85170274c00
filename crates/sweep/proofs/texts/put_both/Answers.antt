use Rattle.std.proofs.lemmas.Result.{err_from_is_err_and}
use Rattle.desk_io.specs.declared.desk.Output.TheVariants as output
use Rattle.sweep.proofs.TextFacts.{put-cut, put-then}
use Rattle.sweep.proofs.texts.put_both.Goals as goal

pub returns-in_err-put_all : goal.returns-in_err-put_all
returns-in_err-put_all g c =
    let p = err_from_is_err_and c.from_residual.result c.from_residual.ensures.1 in
    rw p.1 (put-cut output.Sweep c.args.first.now c.args.second.now (g.D.Desk.state c.args.desk.now) (g.D.Desk.state c.put_all.new.desk)
    c.in_err-put_all.field-0.0 _ c.in_err-put_all.ensures)

pub returns : goal.returns
returns g c =
    put-then output.Sweep c.args.first.now c.args.second.now (g.D.Desk.state c.args.desk.now) (g.D.Desk.state c.put_all.new.desk) (g.D.Desk.state c.put_all-2.new.desk)
    c.in_ok-put_all.field-0 c.put_all-2.result c.in_ok-put_all.ensures c.put_all-2.ensures
