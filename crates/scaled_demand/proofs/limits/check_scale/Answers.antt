use Rattle.scaled_demand.proofs.LimitFacts.{scaled_above, scaled_more}
use Rattle.scaled_demand.proofs.limits.check_scale.Goals as goal

pub returns-then-total-clause-first : goal.returns-then-total-clause-first
returns-then-total-clause-first c =
    scaled_above c.args.scale c.args.cells.now c.loop-cell.cell-index c.loop-cell.volume c.with_row-volume.result _ c.times.result
    c.loop-cell.invariant c.loop-cell-test.true c.times.ensures.is c.with_row-volume.ensures c.if-total.true

pub loop-cell-preserved : goal.loop-cell-preserved
loop-cell-preserved c =
    scaled_more c.args.scale c.args.cells.now c.loop-cell.cell-index c.loop-cell.volume c.with_row-volume.result _ c.times.result
    c.loop-cell.invariant c.loop-cell-test.true c.times.ensures.is c.with_row-volume.ensures c.if-total.false
