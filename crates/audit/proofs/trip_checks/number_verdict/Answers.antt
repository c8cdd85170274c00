use Rattle.std.proofs.Common.{◌∷◌, []}
use Rattle.row_reader.specs.declared.faults.Column.TheVariants as column
use Rattle.audit.specs.Audit.{of_agent}
use Rattle.audit.specs.Checks.{Check, same_number}
use Rattle.audit.proofs.Routed.{number_test, number_test_by}
use Rattle.audit.proofs.trip_checks.number_verdict.Goals as goal

pub returns : goal.returns
returns c =
    let r = c.args.r in
    let trip = c.args.trip.now in
    let row = c.args.row.now in
    let agent : Check = of_agent r column.AgentId (same_number row.agent r) in
    let origin : Check = of_agent r column.OZoneId (same_number row.origin trip.origin) in
    let destination : Check = of_agent r column.DZoneId (same_number row.destination trip.destination) in
    let departure : Check = of_agent r column.DepartureStep (same_number row.departure trip.departure) in
    c.then-3.ensures.verdict (agent ∷ origin ∷ destination ∷ []) (departure ∷ [])
    (c.then-2.ensures.verdict (agent ∷ origin ∷ []) (destination ∷ [])
    (c.then.ensures.verdict (agent ∷ []) (origin ∷ [])
    (c.of.ensures (same_number row.agent r) (number_test row.agent r))
    (c.of-2.ensures (same_number row.origin trip.origin) (number_test row.origin trip.origin)))
    (c.of-3.ensures (same_number row.destination trip.destination) (number_test row.destination trip.destination)))
    (c.of-4.ensures (same_number row.departure trip.departure)
    (number_test_by row.departure trip.departure c.from-departure.result c.from-departure.ensures))
