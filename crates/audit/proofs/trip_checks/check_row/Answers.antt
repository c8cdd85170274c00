use Rattle.std.proofs.Common.{ap, subst, sym}
use Rattle.std.specs.Prelude.{option_copied}
use Rattle.audit.specs.Audit.{trip_checks}
use Rattle.audit.specs.Checks.{Holds, IsVerdict, names_route}
use Rattle.audit.specs.Inside.{TellsRoute}
use Rattle.audit.proofs.Routed.{links_fail}
use Rattle.audit.proofs.trip_checks.check_row.Goals as goal

pub returns-in-None-2-clause-verdict : goal.returns-in-None-2-clause-verdict
returns-in-None-2-clause-verdict c =
    let net = c.args.index.now in
    let row = c.args.row.now in
    let trip = c.in-Some.trip.now in
    let none = subst (λ o. TellsRoute net trip c.as_slice.result.now o) c.in-None-2.is c.in_ok-route.ensures in
    subst (λ o. IsVerdict (trip_checks net c.args.r o row) c.fails-in-None-2.result) (sym (ap option_copied c.in-Some.is))
    (links_fail net c.args.r trip row c.number_verdict-numbers.result c.fails-in-None-2.result c.in-Yes.is c.number_verdict-numbers.ensures
    (subst (λ ids. Holds (names_route net trip ids) → ⊥) c.as_slice.ensures none) c.fails-in-None-2.ensures)
