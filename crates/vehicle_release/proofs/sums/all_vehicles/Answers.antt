use Rattle.vehicle_release.proofs.SumsFacts.{counted_more}
use Rattle.vehicle_release.proofs.sums.all_vehicles.Goals as goal

pub loop-cell-preserved : goal.loop-cell-preserved
loop-cell-preserved c =
    counted_more _ _ _ _ _ c.loop-cell.invariant c.loop-cell-test.true c.with_row-volume.ensures c.if-total.false
