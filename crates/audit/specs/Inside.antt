-- How the rows of an agent table are gone through.
use Rattle.std.specs.Prelude.{◌≡◌, ℕ, List, Option, None, Some}
use Rattle.net_core.specs.declared.rows.LinkNo.{LinkNo}
use Rattle.net_core.specs.declared.rows.NetRows.{NetRows}
use Rattle.dta_model.specs.declared.trip.Trip.{Trip}
use Rattle.audit.specs.Audit.{route_named}
use Rattle.audit.specs.Checks.{Holds, names_route}

-- what identifiers name for a trip: a route or none, or that they name no walk
abbrev pub TellsRoute : NetRows → Trip → List ℕ → Option (Option (List LinkNo)) → Type 0
TellsRoute net trip ids None = Holds (names_route net trip ids) → ⊥
TellsRoute net trip ids (Some route) =
    Holds (names_route net trip ids) × (route ≡ route_named net ids)
