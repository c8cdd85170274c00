use Rattle.vehicle_release.proofs.MadeFacts.{made_all, made_few, made_more}
use Rattle.vehicle_release.proofs.trips.trips_by_row.Goals as goal

pub push_row-requires-clause-few : goal.push_row-requires-clause-few
push_row-requires-clause-few c =
    made_few _ _ _ _ _ _ c.loop-cell-test.true c.loop-cell.invariant.is c.requires.total c.requires.few c.with_row-volume.ensures

pub loop-cell-preserved : goal.loop-cell-preserved
loop-cell-preserved c =
    made_more _ _ _ _ _ _ _ c.loop-cell-test.true c.loop-cell.invariant c.with_row-volume.ensures c.in_ok-push_row.ensures

pub returns : goal.returns
returns c = made_all _ _ _ _ c.loop-cell.invariant c.loop-cell-test.false c.loop-cell.auto.cell-index-end
