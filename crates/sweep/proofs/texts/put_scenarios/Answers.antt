use Rattle.std.proofs.Common.{rules}
use Rattle.std.proofs.lemmas.Result.{err_from_is_err_and}
use Rattle.desk_io.specs.declared.desk.Output.TheVariants as output
use Rattle.sweep.proofs.TextFacts.{put-more, put-none, put-sweep, sweep-cut}
use Rattle.sweep.proofs.texts.put_scenarios.Goals as goal

pub each-init : goal.each-init
each-init g c =
    put-none output.Sweep (g.D.Desk.state c.args.desk.now)

pub each-preserved : goal.each-preserved
each-preserved g c =
    put-more c.args.scenarios.now c.each.place c.index-scenarios-place.result (g.D.Desk.state c.args.desk.now) (g.D.Desk.state c.each.desk) (g.D.Desk.state c.put_scenario.new.desk)
    c.each-test.true (search rules) c.each.invariant c.in_ok-put_scenario.ensures

pub returns-in_err-put_scenario : goal.returns-in_err-put_scenario
returns-in_err-put_scenario g c =
    let p = err_from_is_err_and c.from_residual.result c.from_residual.ensures.1 in
    rw p.1 (sweep-cut c.args.scenarios.now c.each.place c.index-scenarios-place.result (g.D.Desk.state c.args.desk.now) (g.D.Desk.state c.each.desk) (g.D.Desk.state c.put_scenario.new.desk)
    tt c.in_err-put_scenario.field-0.0 _ c.each-test.true (search rules) c.each.invariant c.in_err-put_scenario.ensures)

pub returns : goal.returns
returns g c =
    put-sweep c.args.scenarios.now c.each.place (g.D.Desk.state c.args.desk.now) (g.D.Desk.state c.each.desk) c.each-test.false c.each.invariant
