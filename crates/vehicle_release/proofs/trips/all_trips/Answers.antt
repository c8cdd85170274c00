use Rattle.std.proofs.Common.{rules}
use Rattle.vehicle_release.proofs.WholeFacts.{in_order, numbered_whole, ordered_few}
use Rattle.vehicle_release.proofs.trips.all_trips.Goals as goal

pub number_in_order-requires : goal.number_in_order-requires
number_in_order-requires c =
    ordered_few c.args.cells.now _ _ _ _ c.requires.windows c.requires.total c.requires.few c.in_ok-trips.ensures
    (in_order c.args.cells.now _ _ c.requires.windows c.in_ok-trips.ensures c.in_ok-put_in_order.ensures) c.deref_mut.ensures.value

pub returns : goal.returns
returns c =
    numbered_whole c.args.cells.now _ _ _ _ _ c.in_ok-trips.ensures
    (in_order c.args.cells.now _ _ c.requires.windows c.in_ok-trips.ensures c.in_ok-put_in_order.ensures) (search rules)
    c.deref_mut.ensures.value c.number_in_order.ensures
