-- Rows of an agent table whose checks against the trips hold: there are as many as trips, and their routes are walks.
use Rattle.std.proofs.Common.{◌≡◌, ◌⊎◌, inl, inr, ℕ, ◌+◌, ◌<◌, ◌≤◌, Bool, true, false, List, [], ◌∷◌, ◌++◌, length, refl, ap, sym, ◌∙◌, subst, arith, Option, Some, None, get_or, map, rules, take, Bor}
use Rattle.std.specs.Prelude.{IsTrue, ◌↔◌, nat_eq, nat_lt, slice_get, option_map, option_copied, is_some, IfSome}
use Rattle.std.specs.List.{enumerate_from, flat_map}
use Rattle.std.proofs.lemmas.Bool.{cases_lt, ltb-false, ltb-true}
use Rattle.std.proofs.lemmas.List.{map-append, take_more}
use Rattle.std.proofs.lemmas.Option.{slice_get-map, slice_get_past, slice_get-get_or}
use Rattle.desk_io.specs.declared.desk.Table.TheVariants.{Start}
use Rattle.row_reader.specs.declared.faults.Column.TheVariants as column
use Rattle.net_core.specs.Rows.{link_named}
use Rattle.net_core.specs.declared.rows.LinkNo.{LinkNo}
use Rattle.net_core.specs.declared.rows.LinkRow.{LinkRow}
use Rattle.net_core.specs.declared.rows.NetRows.{NetRows}
use Rattle.dta_model.specs.Plans.{link_numbers}
use Rattle.dta_model.specs.Sound.{AreWalks}
use Rattle.dta_model.specs.Walks.{IsWalk}
use Rattle.dta_model.specs.declared.trip.Trip.{Trip}
use Rattle.start_table.specs.Starts.{IsNamedWalk}
use Rattle.audit.specs.Audit.{all_trip_checks, missing_checks, number_checks, of_agent, one_link, route_named, routes_named, trip_checks, trip_checks_at}
use Rattle.audit.specs.Checks.{Check, Holds, IsVerdict, names_route, never}
use Rattle.agent_table.specs.declared.rows.AgentRow.{AgentRow}
use Rattle.audit.specs.declared.verdict.Verdict.{Verdict}
use Rattle.audit.specs.declared.verdict.Verdict.TheVariants.{No, Yes}
use Rattle.audit.proofs.Verdicts.{holds_at, yes_first, yes_last, yes_more}

abbrev no_row : AgentRow
no_row = record { agent = 0; origin = 0; destination = 0; departure = 0; arrival = None; status = []; links = []; entries = [] }

pub number_test : (a b : ℕ) → IsTrue (nat_eq a b) ↔ (a ≡ b)
number_test a b = (λ t. search (rules, t), λ e. rw e (search rules))

pub number_test_by : (a b x : ℕ) → x ≡ b → IsTrue (nat_eq a x) ↔ (a ≡ b)
number_test_by a b x e = subst (λ y. IsTrue (nat_eq a y) ↔ (a ≡ b)) (sym e) (number_test a b)

-- ---- routes by their identifiers
named_links : (links : List LinkRow) (ids : List ℕ) (walk : List LinkNo) → map (link_named links) ids ≡ map Some walk → walk ≡ flat_map (λ i. one_link (link_named links i)) ids
named_links links [] [] h = refl
named_links links [] (w ∷ walk) h = cc
named_links links (x ∷ ids) [] h = cc
named_links links (x ∷ ids) (w ∷ walk) h =
    let head : link_named links x ≡ Some w = cc in
    let rest : map (link_named links) ids ≡ map Some walk = cc in
    ap (λ l. w ∷ l) (named_links links ids walk rest)
    ∙ sym (ap (λ o. one_link o ++ flat_map (λ i. one_link (link_named links i)) ids) head)

-- a walk that identifiers name is the route that they name
pub walk_is_route : (net : NetRows) (o d : ℕ) (ids : List ℕ) (walk : List LinkNo) → IsNamedWalk net o d ids walk → Some walk ≡ route_named net ids
walk_is_route net o d [] [] named = let some = named.walks.some in absurd (omega (arith, some))
walk_is_route net o d [] (w ∷ walk) named = let names = named.names in cc names
walk_is_route net o d (id ∷ ids) walk named = ap Some (named_links net.links (id ∷ ids) walk named.names)

-- ---- rows whose checks hold
last_check : (net : NetRows) (v : ℕ) (trip : Trip) (row : AgentRow) → IsVerdict (trip_checks net v (Some trip) row) Yes → Holds (names_route net trip row.links)
last_check net v trip row h = by (yes_last (number_checks v trip row) (of_agent v column.LinkIds (names_route net trip row.links) ∷ []) h)
  where
    by : IsVerdict (of_agent v column.LinkIds (names_route net trip row.links) ∷ []) Yes → Holds (names_route net trip row.links)
    by (inl (holds, e)) = holds
    by (inr (fails, e)) = cc

no_trip_fails : (net : NetRows) (v : ℕ) (row : AgentRow) → IsVerdict (trip_checks net v None row) Yes → ⊥
no_trip_fails net v row (inl (holds, e)) = holds
no_trip_fails net v row (inr (fails, e)) = cc

route_walks : (net : NetRows) (trip : Trip) (ids : List ℕ) (route : List LinkNo) → Holds (names_route net trip ids) → route_named net ids ≡ Some route → IsWalk net trip.origin trip.destination (link_numbers route)
route_walks net trip [] route h e = cc
route_walks net trip (id ∷ ids) route (inl none) e = cc
route_walks net trip (id ∷ ids) route (inr (walk, named)) e =
    let both : Some walk ≡ Some route = walk_is_route net trip.origin trip.destination (id ∷ ids) walk named ∙ e in
    let same : walk ≡ route = cc in
    subst (λ w. IsWalk net trip.origin trip.destination (link_numbers w)) same named.walks

abbrev HoldRows : NetRows → List Trip → List AgentRow → Type 0
HoldRows net trips agents = IsVerdict (flat_map (trip_checks_at net trips) (enumerate_from 0 agents)) Yes

row_checks : (net : NetRows) (trips : List Trip) (agents : List AgentRow) (v : ℕ) (row : AgentRow) (t : Option Trip) → HoldRows net trips agents → slice_get agents v ≡ Some row → slice_get trips v ≡ t → IsVerdict (trip_checks net v t row) Yes
row_checks net trips agents v row t h e there =
    let place : 0 + v ≡ v = omega arith in
    let here : IsVerdict (trip_checks net v (slice_get trips v) row) Yes =
    subst (λ n. IsVerdict (trip_checks net n (slice_get trips n) row) Yes) place (holds_at (trip_checks_at net trips) agents 0 v row e h) in
    subst (λ o. IsVerdict (trip_checks net v o row) Yes) there here

pub routes_walk : (net : NetRows) (trips : List Trip) (agents : List AgentRow) → HoldRows net trips agents → AreWalks net trips (routes_named net agents)
routes_walk net trips agents h v trip route t r = by (slice_get agents v) refl
  where
    told : option_map (λ (row : AgentRow). route_named net row.links) (slice_get agents v) ≡ Some (Some route)
    told = sym (slice_get-map (λ (row : AgentRow). route_named net row.links) agents v) ∙ r

    by : (o : Option AgentRow) → slice_get agents v ≡ o → IsWalk net trip.origin trip.destination (link_numbers route)
    by None e = absurd (let none : None ≡ Some (Some route) = sym (ap (option_map (λ (row : AgentRow). route_named net row.links)) e) ∙ told in cc)
    by (Some row) e =
        let some : Some (route_named net row.links) ≡ Some (Some route) = sym (ap (option_map (λ (w : AgentRow). route_named net w.links)) e) ∙ told in
        let named : route_named net row.links ≡ Some route = cc in
        route_walks net trip row.links route (last_check net v trip row (row_checks net trips agents v row (Some trip) h e t)) named

none_too_many : (net : NetRows) (trips : List Trip) (agents : List AgentRow) → HoldRows net trips agents → length agents ≤ length trips
none_too_many net trips agents h = by (cases_lt (length trips) (length agents))
  where
    by : (length trips < length agents) ⊎ (length agents ≤ length trips) → length agents ≤ length trips
    by (inr k) = k
    by (inl k) = absurd (no_trip_fails net (length trips) (get_or agents (length trips) no_row)
        (row_checks net trips agents (length trips) (get_or agents (length trips) no_row) None h
        (slice_get-get_or agents (length trips) no_row k) (slice_get_past trips (length trips) (omega arith))))

none_missing : (trips : List Trip) (agents : List AgentRow) → IsVerdict (missing_checks trips agents) Yes → length trips ≤ length agents
none_missing trips agents h = by (nat_lt (length agents) (length trips)) refl
  where
    fails : (cs : List Check) (c : Check) → cs ≡ c ∷ [] → c.statement ≡ never → IsVerdict cs Yes → ⊥
    fails cs c e n y = let k = rw e at y in last c n k
      where
        last : (c : Check) → c.statement ≡ never → IsVerdict (c ∷ []) Yes → ⊥
        last c n (inl (holds, y)) = rw n at holds
        last c n (inr (f, y)) = cc

    by : (b : Bool) → nat_lt (length agents) (length trips) ≡ b → length trips ≤ length agents
    by false e = ltb-false (length agents) (length trips) e
    by true e = absurd (fails (missing_checks trips agents) (of_agent (length agents) column.NoColumn never) (rw e refl) refl h)

pub as_many : (net : NetRows) (trips : List Trip) (agents : List AgentRow) → HoldRows net trips agents → IsVerdict (missing_checks trips agents) Yes → length agents ≡ length trips
as_many net trips agents h m =
    let less = none_too_many net trips agents h in
    let more = none_missing trips agents m in
    omega (arith, less, more)

-- ---- one row more
-- what a list has at a place, if anything
pub looked_up : (o : Option (Bor Trip)) (trips : List Trip) (r : ℕ) → is_some o ≡ nat_lt r (length trips) → IfSome o (λ x. x.now ≡ get_or trips r x.now) → option_copied o ≡ slice_get trips r
looked_up None trips r e h = sym (slice_get_past trips r (ltb-false r (length trips) (sym e)))
looked_up (Some x) trips r e h = ap Some h ∙ sym (slice_get-get_or trips r x.now (ltb-true r (length trips) (sym e)))

-- a row whose numbers hold and whose links name no walk
pub links_fail : (net : NetRows) (r : ℕ) (trip : Trip) (row : AgentRow) (v w : Verdict) → v ≡ Yes → IsVerdict (number_checks r trip row) v → (Holds (names_route net trip row.links) → ⊥)
    → w ≡ No Start (r + 2) column.LinkIds → IsVerdict (trip_checks net r (Some trip) row) w
links_fail net r trip row v w e numbers none is =
    yes_more (number_checks r trip row) (of_agent r column.LinkIds (names_route net trip row.links) ∷ []) v w e numbers (inr (none, is))

pub routes_more : (net : NetRows) (agents : List AgentRow) (r : ℕ) (row : AgentRow) (routes new : List (Option (List LinkNo))) → r < length agents → row ≡ get_or agents r row
    → routes ≡ routes_named net (take r agents) → new ≡ routes ++ route_named net row.links ∷ [] → new ≡ routes_named net (take (r + 1) agents)
routes_more net agents r row routes new h here before is =
    is ∙ ap (λ l. l ++ route_named net row.links ∷ []) before
    ∙ ap (λ (x : AgentRow). routes_named net (take r agents) ++ route_named net x.links ∷ []) here
    ∙ sym (map-append (λ (x : AgentRow). route_named net x.links) (take r agents) (get_or agents r row ∷ []))
    ∙ ap (λ l. routes_named net l) (sym (take_more agents r row h))

-- ---- all rows
pub rows_fit : (net : NetRows) (trips : List Trip) (agents : List AgentRow) (v : Verdict) → v ≡ Yes → IsVerdict (all_trip_checks net trips agents ++ missing_checks trips agents) v
    → (length agents ≡ length trips) × AreWalks net trips (routes_named net agents)
unfolding all_trip_checks
rows_fit net trips agents v e h =
    let holds : IsVerdict (all_trip_checks net trips agents ++ missing_checks trips agents) Yes =
    subst (λ u. IsVerdict (all_trip_checks net trips agents ++ missing_checks trips agents) u) e h in
    let rows = yes_first (all_trip_checks net trips agents) (missing_checks trips agents) holds in
    let number = yes_last (all_trip_checks net trips agents) (missing_checks trips agents) holds in
    (as_many net trips agents rows number, routes_walk net trips agents rows)
