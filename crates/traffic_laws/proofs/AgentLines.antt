-- The line of a vehicle in a table of agents, and the row that the reader of start tables gives.
use Rattle.std.specs.Prelude.{is_some, nat_lt, IfSome}
use Rattle.std.specs.List.{flat_map, range_with_len, zip}
use Rattle.std.proofs.Common.{◌≡◌, ℕ, ◌+◌, ◌^◌, ◌<◌, ◌≤◌, Bool, true, false, List, [], ◌∷◌, ◌++◌}
use Rattle.std.proofs.Common.{append_assoc, length, map, All, Ok, Option, None, Some, codes}
use Rattle.std.proofs.Common.{decimal, refl, ap, sym, ◌∙◌, arith, lt-ltb}
use Rattle.std.proofs.lemmas.List.Folds.{flat_map-map}
use Rattle.std.proofs.lemmas.Simd.{map-map}
use Rattle.std.proofs.lemmas.Str.{IsUtf8-from_is_utf8}
use Rattle.csv.specs.Reading.{strip_bom}
use Rattle.csv.specs.Records.{field_at}
use Rattle.csv.specs.Writing.{default_writer, fields_text, is_blank, read_back, row_text}
use Rattle.desk_io.specs.declared.desk.Table.TheVariants as table
use Rattle.fixed_units.specs.declared.identifier.TheConstants.{GREATEST_IDENTIFIER}
use Rattle.row_reader.specs.Columns.{place_of}
use Rattle.row_reader.specs.Fields.{has_columns}
use Rattle.row_reader.specs.OnLiterals.{tables_on_literals}
use Rattle.row_reader.specs.Records.{Record, is_text, records}
use Rattle.row_reader.specs.declared.faults.Column.TheVariants as column
use Rattle.net_core.specs.declared.rows.LinkNo.{LinkNo}
use Rattle.net_core.specs.declared.rows.NetRows.{NetRows}
use Rattle.dta_model.specs.declared.loaded.Journey.{Journey}
use Rattle.dta_model.specs.declared.trip.Trip.{Trip}
use Rattle.start_table.specs.StartTable.{start_columns, start_row_of, start_verdict}
use Rattle.start_table.specs.Starts.{agents_of}
use Rattle.start_table.specs.declared.rows.StartRow.{StartRow}
use Rattle.start_table.specs.declared.rows.TheConstants.{MOST_START_ROWS}
use Rattle.grid_maker.proofs.LinesFacts.{AreFields, IsField, line-end, line-is, place-nowhere}
use Rattle.grid_maker.proofs.LinesFacts.{table-accepted}
use Rattle.grid_maker.proofs.WrittenFacts.{decimal-field, identifier-read}
use Rattle.reports.specs.Texts.{Vehicle, agent_columns, agent_header, agent_line, agent_text}
use Rattle.reports.specs.Texts.{agent_text_by, agent_text_from, ids_of, joined, line_end}
use Rattle.reports.specs.Texts.{number_or_nothing, routed_status, since_header, status_name}
use Rattle.reports.specs.Texts.{trip_columns, vehicles, way_columns}
use Rattle.agent_table.specs.Agents.{agent_columns as audited_columns}
use Rattle.traffic_laws.proofs.Joined.{ids-read, joined-field, shorter}

-- ---- headers

-- the last name, where iterations are told
abbrev last-name : Bool → Record
last-name false = []
last-name true = codes "route_iteration" ∷ []

abbrev pub names : Bool → Record
names told =
    codes "agent_id" ∷ codes "o_zone_id" ∷ codes "d_zone_id" ∷ codes "departure_step"
    ∷ codes "arrival_step" ∷ codes "status" ∷ codes "link_ids" ∷ codes "entry_steps"
    ∷ last-name told

abbrev pub header-text : Bool → List ℕ
header-text false = agent_header
header-text true = since_header

pub record IsHeader (told : Bool) : Type 0 where
  pub agent : place_of (names told) column.AgentId ≡ Some 0
  pub origin : place_of (names told) column.OZoneId ≡ Some 1
  pub destination : place_of (names told) column.DZoneId ≡ Some 2
  pub departure : place_of (names told) column.DepartureStep ≡ Some 3
  pub arrival : place_of (names told) column.ArrivalStep ≡ Some 4
  pub status : place_of (names told) column.Status ≡ Some 5
  pub links : place_of (names told) column.LinkIds ≡ Some 6
  pub entries : place_of (names told) column.EntrySteps ≡ Some 7
  pub back : read_back (names told) ≡ names told
  pub text : is_text (names told) ≡ true
  pub columns : has_columns (names told) start_columns ≡ Ok tt
  pub audited : has_columns (names told) audited_columns ≡ Ok tt
  pub bom : (rest : List ℕ) → strip_bom (header-text told ++ rest) ≡ header-text told ++ rest
  pub written : header-text told ≡ row_text default_writer (names told)

pub is-header : (told : Bool) → IsHeader told
unfolding tables_on_literals agent_header since_header is_blank fields_text
is-header false = record {
  agent = refl;
  origin = refl;
  destination = refl;
  departure = refl;
  arrival = refl;
  status = refl;
  links = refl;
  entries = refl;
  back = refl;
  text = refl;
  columns = refl;
  audited = refl;
  bom = λ rest. refl;
  written = refl;
}
is-header true = record {
  agent = refl;
  origin = refl;
  destination = refl;
  departure = refl;
  arrival = refl;
  status = refl;
  links = refl;
  entries = refl;
  back = refl;
  text = refl;
  columns = refl;
  audited = refl;
  bom = λ rest. refl;
  written = refl;
}

-- ---- a line

-- a vehicle with the iteration of its route, where that is told
abbrev pub Agent : Type 0
Agent = Vehicle × Option ℕ

-- what a vehicle tells by its route
abbrev pub arrival-at : Option (List LinkNo) → Journey → Option ℕ
arrival-at None journey = None
arrival-at (Some route) journey = journey.arrival

abbrev pub status-at : Option (List LinkNo) → Journey → List ℕ
status-at None journey = codes "unrouted"
status-at (Some route) journey = status_name (routed_status journey)

abbrev pub ids-at : NetRows → Option (List LinkNo) → List ℕ
ids-at net None = []
ids-at net (Some route) = ids_of net route

abbrev pub entries-at : Option (List LinkNo) → Journey → List ℕ
entries-at None journey = []
entries-at (Some route) journey = journey.entries

abbrev last-field : Option (List LinkNo) → Option ℕ → Record
last-field route None = []
last-field None (Some n) = [] ∷ []
last-field (Some route) (Some n) = decimal n ∷ []

columns-are : (net : NetRows) (trip : Trip) (route : Option (List LinkNo)) (j : Journey)
    → agent_columns net trip route j
    ≡ (decimal trip.number ++ codes "," ++ decimal trip.origin ++ codes ","
    ++ decimal trip.destination ++ codes "," ++ decimal trip.departure ++ codes ","
    ++ number_or_nothing (arrival-at route j) ++ codes "," ++ status-at route j ++ codes ",")
    ++ (joined (ids-at net route) ++ codes "," ++ joined (entries-at route j))
unfolding agent_columns trip_columns way_columns
columns-are net trip None j = refl
columns-are net trip (Some route) j = refl

end-is : (route : Option (List LinkNo)) (told : Option ℕ)
    → line_end route told ≡ line-end (last-field route told)
end-is None None = refl
end-is (Some route) None = refl
end-is None (Some n) = refl
end-is (Some route) (Some n) = refl

last-many : (route : Option (List LinkNo)) (o : Option ℕ) (told : Bool) → is_some o ≡ told
    → length (last-field route o) ≡ length (last-name told)
last-many None None false e = refl
last-many (Some route) None false e = refl
last-many None (Some n) true e = refl
last-many (Some route) (Some n) true e = refl
last-many route None true e = cc
last-many route (Some n) false e = cc

empty-field : IsField []
unfolding tables_on_literals
empty-field = record { plain = refl; text = IsUtf8-from_is_utf8 [] refl }

last-are : (route : Option (List LinkNo)) (o : Option ℕ) → IfSome o (λ n. n < 2 ^ 64)
    → AreFields (last-field route o)
last-are route None h = tt
last-are None (Some n) h = (empty-field, tt)
last-are (Some route) (Some n) h = (decimal-field n h, tt)

number-field : (o : Option ℕ) → IfSome o (λ n. n < 2 ^ 64) → IsField (number_or_nothing o)
number-field None h = empty-field
number-field (Some n) h = decimal-field n h

routed-field : (arrival : Option ℕ) (entries : List ℕ)
    → IsField (status_name (routed_status (record { entries = entries; arrival = arrival })))
unfolding tables_on_literals
routed-field (Some n) entries =
    record { plain = refl; text = IsUtf8-from_is_utf8 (codes "arrived") refl }
routed-field None [] =
    record { plain = refl; text = IsUtf8-from_is_utf8 (codes "waiting") refl }
routed-field None (e ∷ entries) =
    let some : nat_lt 0 (length (e ∷ entries)) ≡ true =
    lt-ltb 0 (length (e ∷ entries)) (omega arith) in
    rw some (record { plain = refl; text = IsUtf8-from_is_utf8 (codes "running") refl })

status-field : (route : Option (List LinkNo)) (j : Journey) → IsField (status-at route j)
unfolding tables_on_literals
status-field None j = record { plain = refl; text = IsUtf8-from_is_utf8 (codes "unrouted") refl }
status-field (Some route) j = routed-field j.arrival j.entries

-- how many agents stand up to one, with it, where they stand in the order of their numbers
abbrev pub number-in : Agent → ℕ
number-in a = a.0.trip.number + 1

-- numbers less one
less-one : {X : Type 0} (f : X → ℕ) (from : ℕ) (xs : List X)
    → map (λ x. f x + 1) xs ≡ range_with_len (from + 1) (length xs)
    → map f xs ≡ range_with_len from (length xs)
less-one f from [] e = refl
less-one f from (x ∷ xs) e =
    let first : f x + 1 ≡ from + 1 = cc in
    let rest : map (λ x. f x + 1) xs ≡ range_with_len (from + 1 + 1) (length xs) = cc in
    let same : f x ≡ from = omega (arith, first) in
    ap (λ n. n ∷ map f xs) same ∙ ap (λ l. from ∷ l) (less-one f (from + 1) xs rest)

module _ (net : NetRows) (told : Bool) where
  abbrev pub agent-fields : Agent → Record
  agent-fields a =
      decimal a.0.trip.number ∷ decimal a.0.trip.origin ∷ decimal a.0.trip.destination
      ∷ decimal a.0.trip.departure ∷ number_or_nothing (arrival-at a.0.route a.0.journey)
      ∷ status-at a.0.route a.0.journey ∷ joined (ids-at net a.0.route)
      ∷ joined (entries-at a.0.route a.0.journey) ∷ last-field a.0.route a.1

  abbrev pub line-of : Agent → List ℕ
  line-of a = agent_line net a.0.trip a.0.route a.0.journey a.1

  -- the row that the line tells
  abbrev pub row-told : Agent → StartRow
  row-told a = record {
    agent = a.0.trip.number;
    origin = a.0.trip.origin;
    destination = a.0.trip.destination;
    links = ids-at net a.0.route;
  }

  pub record AgentFits (a : Agent) : Type 0 where
    pub few : a.0.trip.number + 1 ≤ MOST_START_ROWS
    pub origin : a.0.trip.origin ≤ GREATEST_IDENTIFIER
    pub destination : a.0.trip.destination ≤ GREATEST_IDENTIFIER
    pub departure : a.0.trip.departure < 2 ^ 64
    pub arrival : IfSome (arrival-at a.0.route a.0.journey) (λ n. n < 2 ^ 64)
    pub ids : All (λ n. n ≤ GREATEST_IDENTIFIER) (ids-at net a.0.route)
    pub entries : All (λ n. n < 2 ^ 64) (entries-at a.0.route a.0.journey)
    pub iteration : IfSome a.1 (λ n. n < 2 ^ 64)
    pub as_told : is_some a.1 ≡ told

  pub fields-are : (a : Agent) → AgentFits a → AreFields (agent-fields a)
  fields-are a f =
      let n = f.few in
      let o = f.origin in
      let d = f.destination in (
        decimal-field a.0.trip.number (omega (arith, n)),
        (
          decimal-field a.0.trip.origin (omega (arith, o)),
          (
            decimal-field a.0.trip.destination (omega (arith, d)),
            (
              decimal-field a.0.trip.departure f.departure,
              (
                number-field (arrival-at a.0.route a.0.journey) f.arrival,
                (
                  status-field a.0.route a.0.journey,
                  (
                    joined-field (ids-at net a.0.route) (shorter (ids-at net a.0.route) f.ids),
                    (
                      joined-field (entries-at a.0.route a.0.journey) f.entries,
                      last-are a.0.route a.1 f.iteration,
                    ),
                  ),
                ),
              ),
            ),
          ),
        ),
      )

  pub many-fields : (a : Agent) → AgentFits a → length (agent-fields a) ≡ length (names told)
  many-fields a f = let k = last-many a.0.route a.1 told f.as_told in omega (arith, k)

  pub line-of-is : (a : Agent) → AgentFits a → line-of a ≡ row_text default_writer (agent-fields a)
  unfolding agent_line
  line-of-is a f =
      let are = fields-are a f in
      rw (
        ← line-is (decimal a.0.trip.number) (decimal a.0.trip.origin)
            (decimal a.0.trip.destination ∷ decimal a.0.trip.departure
            ∷ number_or_nothing (arrival-at a.0.route a.0.journey)
            ∷ status-at a.0.route a.0.journey ∷ joined (ids-at net a.0.route)
            ∷ joined (entries-at a.0.route a.0.journey) ∷ last-field a.0.route a.1) are,
        columns-are net a.0.trip a.0.route a.0.journey,
        end-is a.0.route a.1,
      ) (simp append_assoc)

  agents-are : (before : List Agent) → map number-in before ≡ range_with_len 1 (length before)
      → agents_of (map row-told before) ≡ range_with_len 0 (length before)
  agents-are before e =
      map-map (λ (row : StartRow). row.agent) row-told before
      ∙ less-one (λ (a : Agent). a.0.trip.number) 0 before e

  agent-accepted : (before : List Agent) (a : Agent) → AgentFits a
      → map number-in before ≡ range_with_len 1 (length before)
      → number-in a ≡ length before + 1
      → start_row_of (map row-told before) (record {
        header = names told;
        fields = agent-fields a;
        line = length (map row-told before) + 2;
      })
      ≡ Ok (row-told a)
  unfolding start_row_of field_at
  agent-accepted before a f b n =
      let h = is-header told in
      let few = f.few in
      rw (
        h.agent,
        h.origin,
        h.destination,
        h.links,
        identifier-read column.AgentId a.0.trip.number (omega (arith, few)),
        agents-are before b,
        place-nowhere 0 (length before) a.0.trip.number (omega (arith, n)),
        identifier-read column.OZoneId a.0.trip.origin f.origin,
        identifier-read column.DZoneId a.0.trip.destination f.destination,
        ids-read column.LinkIds (ids-at net a.0.route) f.ids,
      ) refl

  pub agents-accepted : (agents : List Agent) → All AgentFits agents
      → map number-in agents ≡ range_with_len 1 (length agents)
      → start_verdict (records (header-text told ++ flat_map line-of agents))
      ≡ Ok (map row-told agents)
  agents-accepted agents fit rise =
      let h = is-header told in
      table-accepted agent-fields line-of number-in AgentFits table.Start MOST_START_ROWS
      start_columns start_row_of (names told)
      (λ a f. (many-fields a f, fields-are a f, f.few)) line-of-is (λ _. refl) row-told
      agent-accepted agents (header-text told ++ flat_map line-of agents) fit h.back
      (h.bom (flat_map line-of agents))
      (ap (λ t. t ++ flat_map line-of agents) h.written) h.text h.columns rise

-- ---- the table of vehicles

-- vehicles with the iterations of their routes, where these are told
abbrev pub agents-with : List Vehicle → Option (List ℕ) → List Agent
agents-with vs None = map (λ v. (v, None)) vs
agents-with vs (Some since) = map (λ x. (x.0, Some x.1)) (zip vs since)

pub text-is : (net : NetRows) (trips : List Trip) (routes : List (Option (List LinkNo)))
    (journeys : List Journey) (since : Option (List ℕ))
    → agent_text_by net trips routes journeys since
    ≡ header-text (is_some since)
    ++ flat_map (line-of net (is_some since)) (agents-with (vehicles trips routes journeys) since)
unfolding agent_text_by agent_text agent_text_from
text-is net trips routes journeys None =
    ap (λ t. agent_header ++ t) (sym (flat_map-map (line-of net false)
    (λ (v : Vehicle). (v, None)) (vehicles trips routes journeys)))
text-is net trips routes journeys (Some since) =
    ap (λ t. since_header ++ t) (sym (flat_map-map (line-of net true)
    (λ (x : Vehicle × ℕ). (x.0, Some x.1)) (zip (vehicles trips routes journeys) since)))
