use Rattle.std.proofs.Common.{◌∙◌, ◌<◌, ◌≤◌, arith, sym, length}
use Rattle.dta_model.specs.Lent.{plan_of}
use Rattle.node_transfer.proofs.OfStart.Starts.{cells_next, cells_end}
use Rattle.node_transfer.proofs.start.cells.start_cells.Goals as goal

pub loop-n-preserved : goal.loop-n-preserved
loop-n-preserved c =
    let p = plan_of c.args.loading.now in
    let count = c.node_count-n-end.ensures.count in
    let here = c.loop-n-test.true in
    let below : c.loop-n.n < length p.net.nodes = omega (arith, count, here) in (
      rw (c.in_ok-push.ensures.items, c.in_ok-cell.ensures.cell, c.in_ok-cell.ensures.left) (sym (cells_next p c.loop-n.lines c.loop-n.cells.items c.loop-n.n (length p.net.nodes) below) ∙ c.loop-n.invariant.0),
      c.in_ok-cell.ensures.count ∙ c.loop-n.invariant.1,
    )

pub returns : goal.returns
returns c =
    let p = plan_of c.args.loading.now in
    let count = c.node_count-n-end.ensures.count in
    let past = c.loop-n-test.false in
    let over : length p.net.nodes ≤ c.loop-n.n = omega (arith, count, past) in
    sym (cells_end p c.loop-n.lines c.loop-n.cells.items c.loop-n.n (length p.net.nodes) over) ∙ c.loop-n.invariant.0
