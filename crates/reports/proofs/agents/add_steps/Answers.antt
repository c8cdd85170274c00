use Rattle.std.proofs.lemmas.Result.{err_from_is_err_and}
use Rattle.desk_io.specs.declared.desk.Output.TheVariants as output
use Rattle.reports.proofs.TextsFacts.{item-added, item-refused, items-added}
use Rattle.reports.proofs.agents.add_steps.Goals as goal

pub returns-in_err-add_item : goal.returns-in_err-add_item
returns-in_err-add_item g c =
    rw (err_from_is_err_and c.from_residual.result c.from_residual.ensures.1).1
    (item-refused _ output.Agent c.args.steps.now c.each.place _ c.args.pending.now c.each.pending _ _ _ _ _ _
    c.each-test.true c.from.ensures c.each.invariant c.in_err-add_item.ensures)

pub each-preserved : goal.each-preserved
each-preserved g c =
    item-added output.Agent c.args.steps.now c.each.place _ c.args.pending.now c.each.pending c.add_item.new.pending _ _ _ _
    c.each-test.true c.from.ensures c.each.invariant c.in_ok-add_item.ensures

pub returns : goal.returns
returns g c = items-added output.Agent c.args.steps.now c.each.place c.args.pending.now c.each.pending _ _ _ c.each-test.false c.each.invariant
