-- Jobs of accepted tables, and what stops a run before its work.
use Rattle.std.proofs.Common.{◌≡◌, ◌≢◌, ◌<◌, ℕ, List, [], ◌∷◌, ◌++◌, length, refl, sym, ap, subst, arith, rules, inl, inr, ◌∙◌}
use Rattle.std.specs.Prelude.{◌↔◌, ⊤, Result, Ok, Err, OnOk, IfOk, IfErr}
use Rattle.std.proofs.lemmas.List.{length-map}
use Rattle.std.proofs.lemmas.List.Elements.{All-nil}
use Rattle.std.proofs.lemmas.Result.{IfErr-weaker, IfOk-weaker}
use Rattle.desk_io.specs.declared.desk.Table.{Table}
use Rattle.desk_io.specs.Desk.{Left}
use Rattle.desk_io.specs.Transfers.{IsBegun, IsLong}
use Rattle.net_core.specs.Network.{IsNet}
use Rattle.net_core.specs.declared.rows.LinkRow.{LinkRow}
use Rattle.net_core.specs.declared.rows.NetRows.{NetRows}
use Rattle.net_core.specs.declared.rows.NodeRow.{NodeRow}
use Rattle.gmns_tables.specs.Net.{net_rows}
use Rattle.gmns_tables.specs.RowsWithWindows.{rows_of}
use Rattle.start_table.specs.Starts.{AreStartRows}
use Rattle.start_table.specs.declared.rows.StartRow.{StartRow}
use Rattle.gmns_tables.specs.declared.with_windows.WithWindows.{WithWindows}
use Rattle.dta_model.specs.Release.{in_order_of_departure, released, trips_of}
use Rattle.dta_model.specs.declared.trip.DemandCell.{DemandCell}
use Rattle.dta_model.specs.declared.trip.Trip.{Trip}
use Rattle.reports.specs.declared.refusal.Refusal.{Refusal}
use Rattle.reports.specs.declared.refusal.Refusal.TheVariants as refusal
use Rattle.desk_io.specs.declared.transfers.TheConstants.{MOST_TABLE_BYTES}
use Rattle.dta_words.specs.declared.command.Command.{Command}
use Rattle.dta_words.specs.declared.command.Command.TheVariants as command
use Rattle.dta_words.specs.declared.command.Settings.{Settings}
use Rattle.assignment.specs.Traffic.{AreTripsBelow, IsTraffic}
use Rattle.jobs.specs.Calls.{OnlyReads}
use Rattle.jobs.specs.TableRows.{TableRows, net_of, no_rows, road_rows}
use Rattle.jobs.specs.Limits.{HasSweepRoom, Limits, sweep_limits}
use Rattle.jobs.specs.Inputs.{Assigning, Assigns, Auditing, FreeFlow, Inputs, Kind, Skimming, Sweeping, TakesTimes, assignment_inputs, inputs_by, inputs_of, kind_of, limits_of, tables_of}
use Rattle.jobs.specs.Reading.{ReadState, Reading, grid_left, reads_at}
use Rattle.jobs.specs.Jobs.{IsJob, IsJobOf, JobRows, job_of}
use Rattle.jobs.specs.Causes.{AreCounted, IsPast, ReadsFailed}
use Rattle.jobs.specs.Stops.{Stops, StopsAmong, StopsAt, StopsPast, stop_at_scale}
use Rattle.jobs.specs.Tables.{AreAccepted, IsFaulty, ReachedAmong}
use Rattle.desk_io.specs.State.{DeskState}
use Rattle.scaled_demand.specs.Scales.{IsFirstTooMany}
use Rattle.scaled_demand.specs.declared.fault.SweepFault.{SweepFault}
use Rattle.scaled_demand.specs.declared.fault.SweepFault.TheVariants as sweep
use Rattle.desk_io.proofs.DeskFacts.{before_left-empty}
use Rattle.jobs.proofs.ChainFacts.{reached-then}
use Rattle.jobs.specs.declared.stop.Stop.{Stop}
use Rattle.jobs.specs.declared.stop.Stop.TheVariants.{Refused, Memory}

-- ---- the trips of no rows

pub trips_of-none : trips_of [] ≡ []
unfolding trips_of released in_order_of_departure
trips_of-none = refl

-- no vehicles
pub no-trips : (horizon : ℕ) → AreTripsBelow horizon []
no-trips horizon = record {
  in_order = record { few = search rules; numbered = refl; apart = All-nil (λ trip. trip.origin ≢ trip.destination) };
  rising = λ i j d l h. absurd (omega (arith, h));
  early = All-nil (λ trip. trip.departure < horizon);
}

-- what an assignment lends of a job
pub lent-traffic : (s : Settings) (job : JobRows) (net : NetRows) (lent : List Trip) (start : List StartRow) → net ≡ job.net → lent ≡ job.trips
    → start ≡ job.start → IsJob s job → IsTraffic s.horizon (record { net = net; trips = lent; start = start })
lent-traffic s job net lent start over same rows good = record {
  net = subst IsNet (sym over) good.net;
  trips = subst (AreTripsBelow s.horizon) (sym same) good.trips;
  start = subst AreStartRows (sym rows) good.start;
}

-- as many links as rows of links
pub link-count : (links : List (WithWindows LinkRow)) (rows : List LinkRow) → rows ≡ rows_of links → length links ≡ length rows
link-count links rows are = sym (length-map links (λ link. link.row)) ∙ ap length (sym are)

-- ---- tables that were reached

module _ (settings : Settings) where
  reached-map : (t : Table) (Part Other : TableRows → Left → Left → Type 0) (tables : List Table) (rows : TableRows) (left rest : Left)
      → ((r : TableRows) (a b : Left) → Part r a b → Other r a b) → ReachedAmong settings tables t Part rows left rest → ReachedAmong settings tables t Other rows left rest
  reached-map t Part Other [] rows left rest f h = absurd h
  reached-map t Part Other (u ∷ tables) rows left rest f (inl h) = inl (h.0, f rows left rest h.1)
  reached-map t Part Other (u ∷ tables) rows left rest f (inr h) = inr (h.0, h.1, h.2, reached-map t Part Other tables h.0 h.1 rest f h.3)

  -- what is so at that table whatever the rows are
  reached-holds : (t : Table) (Part : TableRows → Left → Left → Type 0) (P : Type 0) (tables : List Table) (rows : TableRows) (left rest : Left)
      → ((r : TableRows) (a b : Left) → Part r a b → P) → ReachedAmong settings tables t Part rows left rest → P
  reached-holds t Part P [] rows left rest f h = absurd h
  reached-holds t Part P (u ∷ tables) rows left rest f (inl h) = f rows left rest h.1
  reached-holds t Part P (u ∷ tables) rows left rest f (inr h) = reached-holds t Part P tables h.0 h.1 rest f h.3

-- what a command takes that assigns
assigned-inputs : (c : Command) → Assigns c → inputs_of c ≡ assignment_inputs
assigned-inputs c assigns = ap inputs_by assigns

pub assigned-no-times : (c : Command) → Assigns c → TakesTimes c → ⊥
assigned-no-times c assigns takes = subst (λ (i : Inputs). i.takes_times) (assigned-inputs c assigns) takes

pub assigned-no-sweep : (c : Command) → Assigns c → kind_of c ≡ Sweeping → ⊥
assigned-no-sweep c assigns is = let same : Sweeping ≡ Assigning = sym is ∙ assigns in absurd cc

-- the demand of a command that assigns is released once
pub assigned-released : (c : Command) → Assigns c → (cells : List DemandCell) → (inputs_of c).released cells ≡ cells
assigned-released c assigns cells = ap (λ (i : Inputs). i.released cells) (assigned-inputs c assigns)

pub assigned-unswept : (c : Command) → Assigns c → (cells : List DemandCell) → (inputs_of c).swept cells ≡ []
assigned-unswept c assigns cells = ap (λ (i : Inputs). i.swept cells) (assigned-inputs c assigns)

-- the table at which reading stopped, as the cause of the stop
module _ (s : Settings) (before after : ReadState) where
  abbrev Ends : Table → Stop → TableRows → Left → Left → Type 0
  Ends t stop rows left rest = StopsAt s t rows stop (record before { left = left }) (record after { left = rest })

  pub among-in : (stop : Stop) → StopsAmong s (tables_of s.command s.start) no_rows stop before after → Stops s stop before after
  among-in Memory h = inr (inl h)
  among-in (Refused refusal.Usage) h =
      absurd (reached-holds s h.0 (Ends h.0 (Refused refusal.Usage)) ⊥ (tables_of s.command s.start) no_rows before.left after.left (λ r a b k. k) h.1)
  among-in (Refused (refusal.Table fault)) h =
      let same : fault.table ≡ h.0 = reached-holds s h.0 (Ends h.0 (Refused (refusal.Table fault))) (fault.table ≡ h.0) (tables_of s.command s.start) no_rows before.left after.left (λ r a b k. k.0) h.1 in
      let faulty = reached-map s h.0 (Ends h.0 (Refused (refusal.Table fault))) (IsFaulty s fault h.0) (tables_of s.command s.start) no_rows before.left after.left (λ r a b k. k.1) h.1 in
      subst (λ (t : Table). ReachedAmong s (tables_of s.command s.start) t (IsFaulty s fault t) no_rows before.left after.left) (sym same) faulty
  among-in (Refused (refusal.Read u)) h =
      let same : u ≡ h.0 = reached-holds s h.0 (Ends h.0 (Refused (refusal.Read u))) (u ≡ h.0) (tables_of s.command s.start) no_rows before.left after.left (λ r a b k. k.0) h.1 in
      let failed : ReadsFailed before after = reached-holds s h.0 (Ends h.0 (Refused (refusal.Read u))) (ReadsFailed before after) (tables_of s.command s.start) no_rows before.left after.left (λ r a b k. k.2) h.1 in
      let begun = reached-map s h.0 (Ends h.0 (Refused (refusal.Read u))) (λ _. IsBegun h.0) (tables_of s.command s.start) no_rows before.left after.left (λ r a b k. k.1) h.1 in
      (subst (λ (t : Table). ReachedAmong s (tables_of s.command s.start) t (λ _. IsBegun t) no_rows before.left after.left) (sym same) begun, failed)
  among-in (Refused (refusal.LongTable u)) h =
      let same : u ≡ h.0 = reached-holds s h.0 (Ends h.0 (Refused (refusal.LongTable u))) (u ≡ h.0) (tables_of s.command s.start) no_rows before.left after.left (λ r a b k. k.0) h.1 in
      let long = reached-map s h.0 (Ends h.0 (Refused (refusal.LongTable u))) (λ _. IsLong h.0 MOST_TABLE_BYTES) (tables_of s.command s.start) no_rows before.left after.left (λ r a b k. k.1) h.1 in
      subst (λ (t : Table). ReachedAmong s (tables_of s.command s.start) t (λ _. IsLong t MOST_TABLE_BYTES) no_rows before.left after.left) (sym same) long
  among-in (Refused (refusal.Cells links steps)) h =
      absurd (reached-holds s h.0 (Ends h.0 (Refused (refusal.Cells links steps))) ⊥ (tables_of s.command s.start) no_rows before.left after.left (λ r a b k. k) h.1)
  among-in (Refused (refusal.Vehicles line total)) h =
      absurd (reached-holds s h.0 (Ends h.0 (Refused (refusal.Vehicles line total))) ⊥ (tables_of s.command s.start) no_rows before.left after.left (λ r a b k. k) h.1)
  among-in (Refused (refusal.SkimPairs number)) h =
      absurd (reached-holds s h.0 (Ends h.0 (Refused (refusal.SkimPairs number))) ⊥ (tables_of s.command s.start) no_rows before.left after.left (λ r a b k. k) h.1)
  among-in (Refused (refusal.SweepCells links steps)) h =
      absurd (reached-holds s h.0 (Ends h.0 (Refused (refusal.SweepCells links steps))) ⊥ (tables_of s.command s.start) no_rows before.left after.left (λ r a b k. k) h.1)

  -- a limit that the rows of accepted tables are past, as the cause of the stop
  past-counted : (limits : Limits) → limits_of s.command ≡ limits → (rows : TableRows) (r : Refusal)
      → AreAccepted s (tables_of s.command s.start) no_rows rows before.left after.left → limits.past s rows r → IsPast s r before after
  past-counted limits are rows r read h = record { rows = rows; read = read; part = subst (λ (l : Limits). l.past s rows r) (sym are) h }

  pub past-in : (limits : Limits) → limits_of s.command ≡ limits → (rows : TableRows) (stop : Stop)
      → AreAccepted s (tables_of s.command s.start) no_rows rows before.left after.left → StopsPast limits s rows stop → Stops s stop before after
  past-in limits are rows Memory read h = inr (inr (record { rows = rows; read = read; part = tt }))
  past-in limits are rows (Refused refusal.Usage) read h = absurd h
  past-in limits are rows (Refused (refusal.Table fault)) read h = absurd h
  past-in limits are rows (Refused (refusal.Read u)) read h = absurd h
  past-in limits are rows (Refused (refusal.LongTable u)) read h = absurd h
  past-in limits are rows (Refused (refusal.Cells links steps)) read h = past-counted limits are rows (refusal.Cells links steps) read h
  past-in limits are rows (Refused (refusal.Vehicles line total)) read h = past-counted limits are rows (refusal.Vehicles line total) read h
  past-in limits are rows (Refused (refusal.SkimPairs number)) read h = past-counted limits are rows (refusal.SkimPairs number) read h
  past-in limits are rows (Refused (refusal.SweepCells links steps)) read h = past-counted limits are rows (refusal.SweepCells links steps) read h

-- what was read of a grid's tables, as the reading of its command
module _ (s : Settings) (n : ℕ) (asks : s.command ≡ command.Demo n) (desk : DeskState) where
  pub grid-reading : (Part : ReadState → ReadState → Type 0) (rest : Left) → Part (record { left = grid_left n; read_faults = 0 }) (record { left = rest; read_faults = 0 })
      → Reading s.command Part (reads_at desk) (reads_at desk)
  grid-reading Part rest part = subst (λ (c : Command). Reading c Part (reads_at desk) (reads_at desk)) (sym asks) (refl, rest, part)

  pub grid-reads : {T : Type 0} (rows_in : T → JobRows) (r : Result T Stop) (made later : DeskState) → made.left ≡ grid_left n → made.read_faults ≡ 0 → later.read_faults ≡ 0
      → OnlyReads (λ job. IsJobOf s (rows_in job)) (Stops s) made later r
      → OnlyReads (λ job. Reading s.command (IsJobOf s (rows_in job))) (λ stop. Reading s.command (Stops s stop)) desk desk r
  grid-reads rows_in r made later from m l h =
      let start : reads_at made ≡ record { left = grid_left n; read_faults = 0 } = rw (from, m) refl in
      let end : reads_at later ≡ record { left = later.left; read_faults = 0 } = rw l refl in
      let read : (Part : ReadState → ReadState → Type 0) → Part (reads_at made) (reads_at later) → Reading s.command Part (reads_at desk) (reads_at desk) =
      λ Part part. grid-reading Part later.left (subst (λ x. Part x (record { left = later.left; read_faults = 0 })) start (subst (λ x. Part (reads_at made) x) end part)) in
      record {
        done = IfOk-weaker r (λ job. IsJobOf s (rows_in job) (reads_at made) (reads_at later)) (λ job. Reading s.command (IsJobOf s (rows_in job)) (reads_at desk) (reads_at desk))
            (λ job k. read (IsJobOf s (rows_in job)) k) h.done;
        stops = IfErr-weaker r (λ stop. Stops s stop (reads_at made) (reads_at later)) (λ stop. Reading s.command (Stops s stop) (reads_at desk) (reads_at desk))
            (λ stop k. read (Stops s stop) k) h.stops;
        later = search rules;
        taken = refl;
        puts = refl;
      }

-- ---- jobs

full-made : {T E : Type 0} (r : Result T E) (P Q : T → Type 0) (K : Type 0) → ((x : T) → K → P x → Q x) → OnOk r K → IfOk r P → IfOk r Q
full-made (Ok x) P Q K f k p = f x k p
full-made (Err e) P Q K f k p = tt

-- the settings' command has these tables and these limits
pub record HasInputs (s : Settings) (tables : List Table) (limits : Limits) : Type 1 where
  pub same : tables_of s.command s.start ≡ tables
  pub under : limits_of s.command ≡ limits

-- where this is to be done
pub asked-for : (s : Settings) (k : Kind) → kind_of s.command ≡ k → HasInputs s ((inputs_by k).tables s.start) (inputs_by k).limits
asked-for s k is = record { same = ap (λ (x : Kind). (inputs_by x).tables s.start) is; under = ap (λ (x : Kind). (inputs_by x).limits) is }

module _ (s : Settings) {tables : List Table} {limits : Limits} (has : HasInputs s tables limits) where
  read-own : (rows : TableRows) (left rest : Left) → AreAccepted s tables no_rows rows left rest → AreAccepted s (tables_of s.command s.start) no_rows rows left rest
  read-own rows left rest read = subst (λ (ts : List Table). AreAccepted s ts no_rows rows left rest) (sym has.same) read

  -- the job of the rows
  pub own-job : (rows : TableRows) (job : JobRows) (before after : ReadState) → AreAccepted s tables no_rows rows before.left after.left
      → limits.within s rows → job ≡ job_of s rows → IsJobOf s job before after
  own-job rows job before after read within makes = record {
    rows = rows;
    read = read-own rows before.left after.left read;
    within = subst (λ (l : Limits). l.within s rows) (sym has.under) within;
    makes = makes;
  }

  pub own-jobs : {T E : Type 0} (rows_in : T → JobRows) (rows : TableRows) (r : Result T E) (before after : ReadState) → AreAccepted s tables no_rows rows before.left after.left
      → OnOk r (limits.within s rows) → IfOk r (λ job. rows_in job ≡ job_of s rows) → IfOk r (λ job. IsJobOf s (rows_in job) before after)
  own-jobs rows_in rows r before after read within makes =
      full-made r (λ job. rows_in job ≡ job_of s rows) (λ job. IsJobOf s (rows_in job) before after) (limits.within s rows)
      (λ job w m. own-job rows (rows_in job) before after read w m) within makes

  pub counted : (rows : TableRows) (before after : ReadState) → AreAccepted s tables no_rows rows before.left after.left → AreCounted s (λ rows. ⊤) before after
  counted rows before after read = record { rows = rows; read = read-own rows before.left after.left read; part = tt }

  -- what stopped the reading of the tables, or was over their rows
  module _ (before after : DeskState) where
    abbrev EndsIn : Stop → Type 0
    EndsIn stop = Stops s stop (reads_at before) (reads_at after)

    pub among : (stop : Stop) → StopsAmong s tables no_rows stop (reads_at before) (reads_at after) → EndsIn stop
    among stop h =
        among-in s (reads_at before) (reads_at after) stop (subst (λ (ts : List Table). StopsAmong s ts no_rows stop (reads_at before) (reads_at after)) (sym has.same) h)

    pub past : (rows : TableRows) (stop : Stop) → AreAccepted s tables no_rows rows before.left after.left → StopsPast limits s rows stop → EndsIn stop
    past rows stop read h = past-in s (reads_at before) (reads_at after) limits has.under rows stop (read-own rows before.left after.left read) h

    pub sized : {T : Type 0} (rows : TableRows) (r : Result T Stop) → AreAccepted s tables no_rows rows before.left after.left
        → IfErr r (StopsPast limits s rows) → IfErr r EndsIn
    sized rows r read h = IfErr-weaker r (StopsPast limits s rows) EndsIn (λ stop k. past rows stop read k) h

    -- memory was wanting after some of the tables, before the next was read
    pub starved : (some : List Table) (t : Table) (others : List Table) (rows : TableRows) → tables ≡ some ++ t ∷ others
        → AreAccepted s some no_rows rows before.left after.left → EndsIn Memory
    starved some t others rows are read =
        let reached = reached-then s t (λ _. IsBegun t) some (t ∷ others) no_rows rows before.left after.left after.left read
        (inl (refl, record { bytes = []; read = sym (before_left-empty t after.left) })) in
        inr (inl (t, subst (λ (ts : List Table). ReachedAmong s ts t (λ _. IsBegun t) no_rows before.left after.left) (sym (has.same ∙ are)) reached))

-- the jobs of some commands, made of rows of which some are missing
pub free-job : (s : Settings) (nodes : List NodeRow) (links : List (WithWindows LinkRow)) → kind_of s.command ≡ FreeFlow
    → record { net = net_rows nodes links []; trips = []; start = []; times = []; demand_cells = []; agents = [] } ≡ job_of s (road_rows nodes links)
free-job s nodes links is = rw (is, trips_of-none) refl

pub skim-job : (s : Settings) (rows : TableRows) → kind_of s.command ≡ Skimming → rows.demand_cells ≡ [] → rows.start ≡ [] → rows.agents ≡ []
    → record { net = net_of rows; trips = []; start = []; times = rows.times; demand_cells = []; agents = [] } ≡ job_of s rows
skim-job s rows asks none unstarted unaudited = rw (asks, none, unstarted, unaudited, trips_of-none) refl

pub audit-job : (s : Settings) (rows : TableRows) → kind_of s.command ≡ Auditing
    → record {
      net = net_of rows;
      trips = trips_of rows.demand_cells;
      start = rows.start;
      times = rows.times;
      demand_cells = [];
      agents = rows.agents;
    } ≡ job_of s rows
audit-job s rows asks = rw asks refl

-- the first scenario that has too many vehicles, as the stop
pub scale-stops : {T : Type 0} (s : Settings) (rows : TableRows) (cells : List DemandCell) (scales : List ℕ) (r : Result T SweepFault) (why : SweepFault)
    → r ≡ Err why → HasSweepRoom s rows → rows.demand_cells ≡ cells → scales ≡ s.scales
    → ((scenario line total : ℕ) → (r ≡ Err (sweep.TooMany scenario line total)) ↔ IsFirstTooMany cells scales scenario line total)
    → StopsPast sweep_limits s rows (stop_at_scale why)
scale-stops s rows cells scales r (sweep.TooMany scenario line total) is room same are tells = (
  room,
  (
    scenario,
    subst (λ (xs : List ℕ). IsFirstTooMany rows.demand_cells xs scenario line total) are
        (subst (λ (cs : List DemandCell). IsFirstTooMany cs scales scenario line total) (sym same) ((tells scenario line total).0 is)),
  ),
)
scale-stops s rows cells scales r sweep.Memory is room same are tells = tt
