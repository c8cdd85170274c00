use Rattle.std.proofs.Common.{inr, subst}
use Rattle.start_table.specs.Starts.{IsNamedWalk, TellsWalk}
use Rattle.audit.proofs.Routed.{walk_is_route}
use Rattle.audit.proofs.trip_checks.route_told.Goals as goal

pub returns-in-Some : goal.returns-in-Some
returns-in-Some c =
    let net = c.args.index.now in
    let trip = c.args.trip.now in
    let ids = c.args.ids.now in
    let named : IsNamedWalk net trip.origin trip.destination ids c.in-Some.walk =
    subst (λ o. TellsWalk net trip.origin trip.destination ids o) c.in-Some.is c.in_ok-walk.ensures in
    (inr (c.in-Some.walk, named), walk_is_route net trip.origin trip.destination ids c.in-Some.walk named)
