-- Small worked cases of the checks of an agent table's rows, and of verdicts.
use Rattle.std.specs.Prelude.{◌≡◌, [], ◌∷◌, None, Some, refl}
use Rattle.std.proofs.Common.{inl}
use Rattle.row_reader.specs.declared.faults.Column.TheVariants as column
use Rattle.dta_model.specs.declared.loaded.Journey.{Journey}
use Rattle.dta_model.specs.declared.trip.Trip.{Trip}
use Rattle.net_core.specs.Examples.{link, node}
use Rattle.net_core.specs.declared.rows.NetRows.{NetRows}
use Rattle.agent_table.specs.Examples.{arrived}
use Rattle.audit.specs.Audit.{journey_checks, missing_checks, number_checks, of_agent, route_named}
use Rattle.audit.specs.Checks.{IsVerdict, never}
use Rattle.audit.specs.declared.verdict.Verdict.TheVariants.{Yes}

abbrev trip : Trip
trip = record { number = 1; origin = 1; destination = 3; departure = 15 }

fits : IsVerdict (number_checks 1 trip arrived) Yes
fits = inl (refl, inl (refl, inl (refl, inl (refl, refl))))

abbrev journey : Journey
journey = record { entries = 15 ∷ 25 ∷ []; arrival = Some 35 }

as_loaded : IsVerdict (journey_checks 1 arrived journey) Yes
as_loaded = inl (refl, inl (refl, inl (refl, refl)))

-- two trips and one row: the line after the last row fails
one_missing : missing_checks (trip ∷ trip ∷ []) (arrived ∷ [])
    ≡ of_agent 1 column.NoColumn never ∷ []
one_missing = refl

-- the links of a route by their identifiers, of two links in a line
abbrev two_links : NetRows
two_links = record {
  nodes = node 1 (Some 1) ∷ node 2 None ∷ node 3 (Some 3) ∷ [];
  links = link 10 0 1 ∷ link 20 1 2 ∷ [];
  turns = [];
  link_windows = [];
  turn_windows = [];
}

over_both : route_named two_links (10 ∷ 20 ∷ []) ≡ Some (record { 0 = 0 } ∷ record { 0 = 1 } ∷ [])
over_both = refl

no_links : route_named two_links [] ≡ None
no_links = refl
