-- The line of a vehicle in a table of agents, and the row that the reader of an audit gives.
use Rattle.std.specs.Prelude.{nat_lt, IfSome}
use Rattle.std.specs.List.{flat_map, range_with_len}
use Rattle.std.proofs.Common.{◌≡◌, ℕ, ◌+◌, ◌≤◌, Bool, true, List, [], ◌∷◌, ◌++◌, length, map}
use Rattle.std.proofs.Common.{All, Ok, Option, None, Some, refl, ap, arith, lt-ltb}
use Rattle.csv.specs.Records.{field_at}
use Rattle.desk_io.specs.declared.desk.Table.TheVariants as table
use Rattle.fixed_units.specs.declared.identifier.TheConstants.{GREATEST_IDENTIFIER}
use Rattle.row_reader.specs.OnLiterals.{tables_on_literals}
use Rattle.row_reader.specs.Records.{records}
use Rattle.row_reader.specs.Trimmed.{trimmed}
use Rattle.row_reader.specs.declared.faults.Column.{Column}
use Rattle.row_reader.specs.declared.faults.Column.TheVariants as column
use Rattle.net_core.specs.declared.rows.LinkNo.{LinkNo}
use Rattle.net_core.specs.declared.rows.NetRows.{NetRows}
use Rattle.dta_model.specs.declared.loaded.Journey.{Journey}
use Rattle.grid_maker.proofs.LinesFacts.{table-accepted}
use Rattle.grid_maker.proofs.WrittenFacts.{identifier-read}
use Rattle.reports.specs.Texts.{number_or_nothing, routed_status, status_name}
use Rattle.agent_table.specs.Agents.{agent_columns, agent_row_of, agents_verdict, optional_identifier}
use Rattle.agent_table.specs.declared.rows.AgentRow.{AgentRow}
use Rattle.agent_table.specs.declared.rows.TheConstants.{MOST_AGENT_ROWS}
use Rattle.traffic_laws.proofs.AgentLines.{Agent, AgentFits, agent-fields, arrival-at, entries-at}
use Rattle.traffic_laws.proofs.AgentLines.{fields-are, header-text, ids-at, is-header, line-of}
use Rattle.traffic_laws.proofs.AgentLines.{line-of-is, many-fields, names, number-in, status-at}
use Rattle.traffic_laws.proofs.Joined.{ids-read, number-some}

-- ---- two fields

-- a number, or an empty field, is read as it was
optional-read : (what : Column) (o : Option ℕ) → IfSome o (λ n. n ≤ GREATEST_IDENTIFIER)
    → optional_identifier what (trimmed (number_or_nothing o)) ≡ Ok o
unfolding tables_on_literals optional_identifier
optional-read what None h = refl
optional-read what (Some n) h = rw (number-some n h, identifier-read what n h) refl

-- the name of a status has no blanks at its ends
routed-trimmed : (arrival : Option ℕ) (entries : List ℕ)
    → trimmed (status_name (routed_status (record { entries = entries; arrival = arrival })))
    ≡ status_name (routed_status (record { entries = entries; arrival = arrival }))
unfolding tables_on_literals
routed-trimmed (Some n) entries = refl
routed-trimmed None [] = refl
routed-trimmed None (e ∷ entries) =
    let some : nat_lt 0 (length (e ∷ entries)) ≡ true =
    lt-ltb 0 (length (e ∷ entries)) (omega arith) in
    rw some refl

status-trimmed : (route : Option (List LinkNo)) (j : Journey)
    → trimmed (status-at route j) ≡ status-at route j
unfolding tables_on_literals
status-trimmed None j = refl
status-trimmed (Some route) j = routed-trimmed j.arrival j.entries

-- ---- a line
module _ (net : NetRows) (told : Bool) where
  -- the row that the line of a vehicle tells
  abbrev pub row-audited : Agent → AgentRow
  row-audited a = record {
    agent = a.0.trip.number;
    origin = a.0.trip.origin;
    destination = a.0.trip.destination;
    departure = a.0.trip.departure;
    arrival = arrival-at a.0.route a.0.journey;
    status = status-at a.0.route a.0.journey;
    links = ids-at net a.0.route;
    entries = entries-at a.0.route a.0.journey;
  }

  -- its steps are such as a field may have
  pub record StepsFit (a : Agent) : Type 0 where
    pub fits : AgentFits net told a
    pub departure : a.0.trip.departure ≤ GREATEST_IDENTIFIER
    pub arrival : IfSome (arrival-at a.0.route a.0.journey) (λ n. n ≤ GREATEST_IDENTIFIER)
    pub entries : All (λ n. n ≤ GREATEST_IDENTIFIER) (entries-at a.0.route a.0.journey)

  line-accepted : (before : List Agent) (a : Agent) → StepsFit a
      → map number-in before ≡ range_with_len 1 (length before)
      → number-in a ≡ length before + 1
      → agent_row_of (map row-audited before) (record {
        header = names told;
        fields = agent-fields net told a;
        line = length (map row-audited before) + 2;
      })
      ≡ Ok (row-audited a)
  unfolding agent_row_of field_at
  line-accepted before a f b n =
      let h = is-header told in
      let few = f.fits.few in
      rw (
        h.agent,
        h.origin,
        h.destination,
        h.departure,
        h.arrival,
        h.status,
        h.links,
        h.entries,
        identifier-read column.AgentId a.0.trip.number (omega (arith, few)),
        identifier-read column.OZoneId a.0.trip.origin f.fits.origin,
        identifier-read column.DZoneId a.0.trip.destination f.fits.destination,
        identifier-read column.DepartureStep a.0.trip.departure f.departure,
        optional-read column.ArrivalStep (arrival-at a.0.route a.0.journey) f.arrival,
        ids-read column.LinkIds (ids-at net a.0.route) f.fits.ids,
        ids-read column.EntrySteps (entries-at a.0.route a.0.journey) f.entries,
        status-trimmed a.0.route a.0.journey,
      ) refl

  pub lines-accepted : (agents : List Agent) → All StepsFit agents
      → map number-in agents ≡ range_with_len 1 (length agents)
      → agents_verdict (records (header-text told ++ flat_map (line-of net told) agents))
      ≡ Ok (map row-audited agents)
  lines-accepted agents fit rise =
      let h = is-header told in
      table-accepted (agent-fields net told) (line-of net told) number-in StepsFit table.Start
      MOST_AGENT_ROWS agent_columns agent_row_of (names told)
      (λ a f. (many-fields net told a f.fits, fields-are net told a f.fits, f.fits.few))
      (λ a f. line-of-is net told a f.fits) (λ _. refl) row-audited line-accepted agents
      (header-text told ++ flat_map (line-of net told) agents) fit h.back
      (h.bom (flat_map (line-of net told) agents))
      (ap (λ t. t ++ flat_map (line-of net told) agents) h.written) h.text h.audited rise
