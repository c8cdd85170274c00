-- An accepted verdict has settings in range and a job of accepted tables.
use Rattle.std.proofs.Common.{◌≡◌, ◌≤◌, ◌<◌, ◌+◌, ◌∙◌, ℕ, zero, suc, Bool, true, false, cond, List, [], ◌∷◌, length, refl, ap, sym, subst, arith, rules}
use Rattle.std.specs.Prelude.{All, Option, None, Some, Result, Ok, Err, find, nat_le, nat_lt}
use Rattle.std.specs.List.{range_with_len}
use Rattle.std.proofs.lemmas.Bool.{leb-true, ltb-false}
use Rattle.std.proofs.lemmas.List.{length-map}
use Rattle.std.proofs.lemmas.List.Elements.{All-cons, All-nil}
use Rattle.desk_io.specs.declared.desk.Table.{Table}
use Rattle.desk_io.specs.declared.desk.Table.TheVariants as table
use Rattle.desk_io.specs.declared.transfers.TheConstants.{MOST_TABLE_BYTES}
use Rattle.row_reader.specs.Fields.{then_with}
use Rattle.row_reader.specs.Records.{records}
use Rattle.row_reader.specs.declared.faults.TableFault.{TableFault}
use Rattle.reports.specs.declared.refusal.Refusal.{Refusal}
use Rattle.net_core.specs.Network.{IsNet}
use Rattle.net_core.specs.Rows.{IsTurning}
use Rattle.net_core.specs.declared.rows.LinkRow.{LinkRow}
use Rattle.net_core.specs.declared.rows.NodeRow.{NodeRow}
use Rattle.net_core.specs.declared.rows.TurnRow.{TurnRow}
use Rattle.dta_model.specs.Release.{HaveWindows, vehicles_before}
use Rattle.dta_model.specs.declared.trip.DemandCell.{DemandCell}
use Rattle.dta_model.specs.declared.trip.TheConstants.{MOST_TRIPS}
use Rattle.gmns_tables.specs.Links.{link_verdict}
use Rattle.gmns_tables.specs.Nodes.{node_verdict}
use Rattle.gmns_tables.specs.RowsWithWindows.{AreTurnRows, rows_of}
use Rattle.gmns_tables.specs.declared.with_windows.WithWindows.{WithWindows}
use Rattle.gmns_tables.proofs.NetFacts.{no-turns}
use Rattle.demand.specs.DemandRows.{AreDemandCells, demand_verdict}
use Rattle.vehicle_release.specs.Limits.{IsWithin}
use Rattle.start_table.specs.Starts.{AreStartRows}
use Rattle.start_table.specs.StartTable.{start_verdict}
use Rattle.agent_table.specs.Agents.{agents_verdict}
use Rattle.skims.specs.GivenTimes.{AreRowsOf}
use Rattle.skims.specs.TimesTable.{times_verdict}
use Rattle.skims.specs.declared.time_rows.TimeRow.{TimeRow}
use Rattle.scaled_demand.specs.Scales.{AreAllWithin, scaled}
use Rattle.dta_words.specs.Grammar.{settings_of}
use Rattle.dta_words.specs.Ranges.{AreSettings}
use Rattle.dta_words.specs.declared.command.Settings.{Settings}
use Rattle.jobs.specs.TableRows.{TableRows, net_of, no_rows, road_rows, start_tables}
use Rattle.jobs.specs.Limits.{first_above, loading_limits, scales_past, vehicles_past}
use Rattle.jobs.specs.Inputs.{Assigning, Auditing, FreeFlow, Kind, Skimming, Sweeping, inputs_by, inputs_of, kind_of}
use Rattle.jobs.specs.Reading.{texts_for}
use Rattle.jobs.specs.Jobs.{IsJob, IsSweepJob, JobRows, job_of}
use Rattle.jobs.specs.Tables.{turns_of, with_table}
use Rattle.jobs.specs.Verdict.{Accepted, Refused, Verdict, after_table, verdict, verdict_by, verdict_on, verdict_past}
use Rattle.assignment.proofs.AssignmentFacts.{no-start-rows}
use Rattle.jobs.proofs.TableFacts.{joined-net}
use Rattle.reference.specs.Laws.{IsAccepted}
use Rattle.row_reader.proofs.Kept.{next_ok, same_Ok}
use Rattle.reference.proofs.NetTables.{are-between, are-links, are-nodes, are-turning, are-turns}
use Rattle.demand.proofs.DemandFacts.{are-cells, no-windows}
use Rattle.reference.proofs.OtherTables.{are-starts, are-times}
use Rattle.dta_words.proofs.RangeFacts.{settings_in_range}
use Rattle.reference.proofs.SweepFacts.{trips-below}

-- ---- the vehicles of a demand

-- where no number of a range is found, none passes
find-none : (p : ℕ → Bool) (a n : ℕ) → find p (range_with_len a n) ≡ None → (i : ℕ) → a ≤ i → i < a + n → p i ≡ false
find-none p a zero e i low high = absurd (omega arith)
find-none p a (suc n) e i low high = elim (p a) as (λ b. p a ≡ b → p i ≡ false) [
  | true ↦ λ here. absurd (let k = rw here at e in cc)
  | false ↦ λ here. elim (nat_le i a) as (λ b. nat_le i a ≡ b → p i ≡ false) [
    | true ↦ λ first. let is = leb-true i a first in let same : a ≡ i = omega arith in subst (λ k. p k ≡ false) same here
    | false ↦ λ later. let past : a < i = search (rules, later) in find-none p (a + 1) n (rw here at e) i (omega arith) (omega arith)
  ] refl
] refl

-- where no row is the first with which the vehicles are too many, they are within the limit
within : (cells : List DemandCell) → first_above cells ≡ None → IsWithin cells
within cells e row below =
    ltb-false MOST_TRIPS (vehicles_before cells (row + 1))
    (find-none (λ row. nat_lt MOST_TRIPS (vehicles_before cells (row + 1))) 0 (length cells) e row (omega arith) (omega arith))

-- no rows make no vehicles
none-within : IsWithin []
none-within row below = absurd (omega arith)

-- ---- verdicts that accept

module _ (given : Settings) (job : JobRows) where
  abbrev Accepts : Verdict → Type 0
  Accepts v = v ≡ Accepted given job

  -- of two verdicts of which the second refuses, the first was made
  passed : (b : Bool) (v : Verdict) (r : Refusal) → Accepts (cond b v (Refused r)) → (b ≡ true) × Accepts v
  passed true v r e = (refl, e)
  passed false v r e = absurd cc

  -- a table was accepted, and then what is next accepts
  after : {P : Type 0} (r : Result TableRows TableFault) (next : TableRows → Verdict) → Accepts (after_table r next)
      → ((more : TableRows) → r ≡ Ok more → Accepts (next more) → P) → P
  after (Ok rows) next e then = then rows refl e
  after (Err fault) next e then = absurd cc

  -- no limit is passed
  unlimited : (o : Option Refusal) (s : Settings) (rows : TableRows) → Accepts (verdict_past o s rows) → (o ≡ None) × Accepts (Accepted s (job_of s rows))
  unlimited None s rows e = (refl, e)
  unlimited (Some r) s rows e = absurd cc

-- of two answers of which the second tells a limit, the first was made
in-room : (b : Bool) (o : Option Refusal) (r : Refusal) → cond b o (Some r) ≡ None → (b ≡ true) × (o ≡ None)
in-room true o r e = (refl, e)
in-room false o r e = absurd cc

no-row : (cells : List DemandCell) (row : Option ℕ) (next : Option Refusal) → vehicles_past cells row next ≡ None → (row ≡ None) × (next ≡ None)
no-row cells None next e = (refl, e)
no-row cells (Some row) next e = absurd cc

on-sizes : (s : Settings) (rows : TableRows) → loading_limits.first_past s rows ≡ None → IsWithin rows.demand_cells
on-sizes s rows e = within rows.demand_cells (no-row rows.demand_cells (first_above rows.demand_cells) None (in-room _ _ _ e).1).0

on-scales : (cells : List DemandCell) (scales : List ℕ) → scales_past cells scales ≡ None → AreAllWithin cells scales
on-scales cells [] e = All-nil (λ scale. IsWithin (scaled scale cells))
on-scales cells (scale ∷ scales) e =
    let here = no-row (scaled scale cells) (first_above (scaled scale cells)) (scales_past cells scales) e in
    All-cons (λ scale. IsWithin (scaled scale cells)) scale scales (within (scaled scale cells) here.0) (on-scales cells scales here.1)

-- ---- the job of accepted tables

module _ (s : Settings) (in_range : AreSettings s) (given : Settings) (job : JobRows) (k : Kind) (is : kind_of s.command ≡ k) where
  -- what is true of the rows of all tables
  record AreSound (rows : TableRows) : Type 0 where
    net : IsNet (net_of rows)
    windows : HaveWindows s.period ((inputs_by k).released rows.demand_cells)
    few : IsWithin ((inputs_by k).released rows.demand_cells)
    start : AreStartRows rows.start
    times : (inputs_by k).takes_times → AreRowsOf (net_of rows) s.bucket s.horizon rows.times
    sweep : k ≡ Sweeping → IsSweepJob s (job_of s rows)

  accepted : (rows : TableRows) → AreSound rows → Accepts given job (Accepted s (job_of s rows)) → IsAccepted given job
  accepted rows sound e =
      let same : s ≡ given = cc in
      let made : job_of s rows ≡ job = cc in
      let good : IsJob s (job_of s rows) = record {
        net = sound.net;
        trips = trips-below s in_range ((inputs_of s.command).released rows.demand_cells) (subst (λ (x : Kind). HaveWindows s.period ((inputs_by x).released rows.demand_cells)) (sym is) sound.windows)
            (subst (λ (x : Kind). IsWithin ((inputs_by x).released rows.demand_cells)) (sym is) sound.few);
        start = sound.start;
        times = subst (λ (x : Kind). (inputs_by x).takes_times → AreRowsOf (net_of rows) s.bucket s.horizon rows.times) (sym is) sound.times;
        sweep = λ asks. sound.sweep (sym is ∙ asks);
      } in
      subst (λ (g : Settings). IsAccepted g job) same (record { in_range = in_range; sound = subst (IsJob s) made good })

  module _ (texts : Table → List ℕ) (next : TableRows → Verdict) where
    abbrev Says : List Table → TableRows → Type 0
    Says tables rows = Accepts given job (verdict_on s tables texts rows next)

    -- one table, and then what is next
    one-table : {X P : Type 0} (t : Table) (others : List Table) (rows : TableRows) (told : Result X TableFault) (with : X → TableRows)
        → with_table s rows t (texts t) ≡ then_with told (λ x. Ok (with x)) → Says (t ∷ others) rows
        → ((x : X) → told ≡ Ok x → Says others (with x) → P) → P
    one-table t others rows told with is e then =
        after given job (with_table s rows t (texts t)) (λ more. verdict_on s others texts more next) (passed given job (nat_le (length (texts t)) MOST_TABLE_BYTES) _ _ e).1
        (λ more accepted e1.
        next_ok told (λ x. Ok (with x)) more (sym is ∙ accepted) (λ x x-is same.
        then x x-is (subst (λ (r : TableRows). Says others r) (sym (same_Ok _ _ same)) e1)))

    -- nodes and links
    roads : {P : Type 0} (others : List Table) → Says (table.Node ∷ table.Link ∷ others) no_rows
        → ((nodes : List NodeRow) (links : List (WithWindows LinkRow)) → IsNet (net_of (road_rows nodes links)) → Says others (road_rows nodes links) → P) → P
    roads others e then =
        one-table table.Node (table.Link ∷ others) no_rows (node_verdict (records (texts table.Node))) (λ nodes. road_rows nodes []) refl e (λ nodes nodes-are e1.
        one-table table.Link others (road_rows nodes []) (link_verdict nodes s.units (records (texts table.Link))) (λ links. road_rows nodes links) refl e1 (λ links links-are e2.
        then nodes links
        (joined-net nodes links [] (are-nodes _ nodes nodes-are) (are-links nodes s.units _ links links-are) (are-between nodes s.units _ links links-are) no-turns (All-nil _))
        e2))

    turns-are : (rows : TableRows) (bytes : List ℕ) (turns : List (WithWindows TurnRow)) → turns_of s rows bytes ≡ Ok turns
        → AreTurnRows turns × All (IsTurning (rows_of rows.links)) (rows_of turns)
    turns-are rows [] turns e = subst (λ (ts : List (WithWindows TurnRow)). AreTurnRows ts × All (IsTurning (rows_of rows.links)) (rows_of ts)) (same_Ok _ _ e) (no-turns, All-nil _)
    turns-are rows (b ∷ bytes) turns e =
        let some = in_range.step.0 in
        (are-turns rows.nodes (rows_of rows.links) s.units some _ turns e, are-turning rows.nodes (rows_of rows.links) s.units some _ turns e)

    with-turns : {P : Type 0} (others : List Table) (rows : TableRows) → IsNet (net_of rows) → Says (table.Movement ∷ others) rows
        → ((turns : List (WithWindows TurnRow)) → IsNet (net_of (record rows { turns = turns })) → Says others (record rows { turns = turns }) → P) → P
    with-turns others rows net e then =
        one-table table.Movement others rows (turns_of s rows (texts table.Movement)) (λ turns. record rows { turns = turns }) refl e (λ turns is e1.
        let are = turns-are rows (texts table.Movement) turns is in
        then turns (record {
          nodes = net.nodes;
          links = net.links;
          between = net.between;
          turns = are.0.rows;
          turning = are.1;
          link_windows = net.link_windows;
          turn_windows = are.0.windows;
          of_links = net.of_links;
          of_turns = (let a = length-map turns (λ (turn : WithWindows TurnRow). turn.windows) in let b = length-map turns (λ (turn : WithWindows TurnRow). turn.row) in omega (arith, a, b));
        }) e1)

    with-cells : {P : Type 0} (others : List Table) (rows : TableRows) → Says (table.Demand ∷ others) rows
        → ((cells : List DemandCell) → AreDemandCells s.period cells → Says others (record rows { demand_cells = cells }) → P) → P
    with-cells others rows e then =
        one-table table.Demand others rows (demand_verdict s.period (records (texts table.Demand))) (λ cells. record rows { demand_cells = cells }) refl e (λ cells is e1.
        then cells (are-cells s.period in_range.period.0 _ cells is) e1)

    with-times : {P : Type 0} (others : List Table) (rows : TableRows) → Says (table.Times ∷ others) rows
        → ((times : List TimeRow) → AreRowsOf (net_of rows) s.bucket s.horizon times → Says others (record rows { times = times }) → P) → P
    with-times others rows e then =
        one-table table.Times others rows (times_verdict (net_of rows) s.bucket s.horizon (records (texts table.Times))) (λ times. record rows { times = times }) refl e (λ times is e1.
        then times (are-times (net_of rows) s.bucket s.horizon _ times in_range.bucket.0 in_range.horizon.0 is) e1)

-- ---- all kinds of work

module _ (s : Settings) (in_range : AreSettings s) (given : Settings) (job : JobRows) (texts : Table → List ℕ) where
  -- what the rows of all tables come to, and the tables
  abbrev sized : Kind → TableRows → Verdict
  sized k rows = verdict_past ((inputs_by k).limits.first_past s rows) s rows

  abbrev Comes : Kind → Type 0
  Comes k = Accepts given job (verdict_on s ((inputs_by k).tables s.start) texts no_rows (sized k))

  free : kind_of s.command ≡ FreeFlow → Comes FreeFlow → IsAccepted given job
  free is e =
      roads s in_range given job FreeFlow is texts (sized FreeFlow) [] e (λ nodes links net e1.
      accepted s in_range given job FreeFlow is (road_rows nodes links) (record {
        net = net;
        windows = no-windows s.period;
        few = none-within;
        start = no-start-rows;
        times = λ k. absurd k;
        sweep = λ k. absurd cc;
      }) e1)

  skim : kind_of s.command ≡ Skimming → Comes Skimming → IsAccepted given job
  skim is e =
      let next = sized Skimming in
      roads s in_range given job Skimming is texts next (table.Movement ∷ table.Times ∷ []) e (λ nodes links net e1.
      with-turns s in_range given job Skimming is texts next (table.Times ∷ []) (road_rows nodes links) net e1 (λ turns whole e2.
      with-times s in_range given job Skimming is texts next [] (record (road_rows nodes links) { turns = turns }) e2 (λ times are e3.
      accepted s in_range given job Skimming is (record (road_rows nodes links) { turns = turns; times = times }) (record {
        net = whole;
        windows = no-windows s.period;
        few = none-within;
        start = no-start-rows;
        times = λ k. are;
        sweep = λ k. absurd cc;
      }) (unlimited given job _ s _ e3).1)))

  loading : kind_of s.command ≡ Assigning → Comes Assigning → IsAccepted given job
  loading is e =
      let next = sized Assigning in
      roads s in_range given job Assigning is texts next (table.Movement ∷ table.Demand ∷ start_tables s.start) e (λ nodes links net e1.
      with-turns s in_range given job Assigning is texts next (table.Demand ∷ start_tables s.start) (road_rows nodes links) net e1 (λ turns whole e2.
      with-cells s in_range given job Assigning is texts next (start_tables s.start) (record (road_rows nodes links) { turns = turns }) e2 (λ cells cells-are e3.
      rest nodes links turns cells whole cells-are.windows s.start e3)))
    where
      finish : (rows : TableRows) → IsNet (net_of rows) → HaveWindows s.period rows.demand_cells → AreStartRows rows.start → Accepts given job (sized Assigning rows) → IsAccepted given job
      finish rows net windows start e =
          let loaded = unlimited given job _ s rows e in
          accepted s in_range given job Assigning is rows (record {
            net = net;
            windows = windows;
            few = on-sizes s rows loaded.0;
            start = start;
            times = λ k. absurd k;
            sweep = λ k. absurd cc;
          }) loaded.1

      rest : (nodes : List NodeRow) (links : List (WithWindows LinkRow)) (turns : List (WithWindows TurnRow)) (cells : List DemandCell)
          → IsNet (net_of (record (road_rows nodes links) { turns = turns })) → HaveWindows s.period cells → (start : Bool)
          → Accepts given job (verdict_on s (start_tables start) texts (record (road_rows nodes links) { turns = turns; demand_cells = cells }) (sized Assigning)) → IsAccepted given job
      rest nodes links turns cells whole windows false e = finish (record (road_rows nodes links) { turns = turns; demand_cells = cells }) whole windows no-start-rows e
      rest nodes links turns cells whole windows true e =
          let rows : TableRows = record (road_rows nodes links) { turns = turns; demand_cells = cells } in
          one-table s in_range given job Assigning is texts (sized Assigning) table.Start [] rows (start_verdict (records (texts table.Start))) (λ start. record rows { start = start })
          (ap (λ (k : Kind). (inputs_by k).with_agents rows (texts table.Start)) is) e (λ start starts e1.
          finish (record rows { start = start }) whole windows (are-starts _ start starts) e1)

  sweep : kind_of s.command ≡ Sweeping → Comes Sweeping → IsAccepted given job
  sweep is e =
      let next = sized Sweeping in
      roads s in_range given job Sweeping is texts next (table.Movement ∷ table.Demand ∷ []) e (λ nodes links net e1.
      with-turns s in_range given job Sweeping is texts next (table.Demand ∷ []) (road_rows nodes links) net e1 (λ turns whole e2.
      with-cells s in_range given job Sweeping is texts next [] (record (road_rows nodes links) { turns = turns }) e2 (λ cells cells-are e3.
      let rows : TableRows = record (road_rows nodes links) { turns = turns; demand_cells = cells } in
      let loaded = unlimited given job _ s rows e3 in
      let roomy = in-room _ _ _ loaded.0 in
      let same : (inputs_of s.command).swept cells ≡ cells = ap (λ (k : Kind). (inputs_by k).swept cells) is in
      accepted s in_range given job Sweeping is rows (record {
        net = whole;
        windows = no-windows s.period;
        few = none-within;
        start = no-start-rows;
        times = λ k. absurd k;
        sweep = λ k. record {
          cells = subst (AreDemandCells s.period) (sym same) cells-are;
          few = rw (length-map links (λ (link : WithWindows LinkRow). link.row)) (leb-true _ _ roomy.0);
          within = subst (λ (cs : List DemandCell). AreAllWithin cs s.scales) (sym same) (on-scales cells s.scales roomy.1);
        };
      }) loaded.1)))

  audit : kind_of s.command ≡ Auditing → Comes Auditing → IsAccepted given job
  audit is e =
      let next = sized Auditing in
      roads s in_range given job Auditing is texts next (table.Movement ∷ table.Demand ∷ table.Start ∷ table.Times ∷ []) e (λ nodes links net e1.
      with-turns s in_range given job Auditing is texts next (table.Demand ∷ table.Start ∷ table.Times ∷ []) (road_rows nodes links) net e1 (λ turns whole e2.
      with-cells s in_range given job Auditing is texts next (table.Start ∷ table.Times ∷ []) (record (road_rows nodes links) { turns = turns }) e2 (λ cells cells-are e3.
      let rows : TableRows = record (road_rows nodes links) { turns = turns; demand_cells = cells } in
      one-table s in_range given job Auditing is texts next table.Start (table.Times ∷ []) rows (agents_verdict (records (texts table.Start))) (λ agents. record rows { agents = agents })
      (ap (λ (k : Kind). (inputs_by k).with_agents rows (texts table.Start)) is) e3 (λ agents _ e4.
      with-times s in_range given job Auditing is texts next [] (record rows { agents = agents }) e4 (λ times are e5.
      let all : TableRows = record rows { agents = agents; times = times } in
      let loaded = unlimited given job _ s all e5 in
      accepted s in_range given job Auditing is all (record {
        net = whole;
        windows = cells-are.windows;
        few = on-sizes s all loaded.0;
        start = no-start-rows;
        times = λ k. are;
        sweep = λ k. absurd cc;
      }) loaded.1)))))

by-kind : (k : Kind) (s : Settings) → kind_of s.command ≡ k → (in_range : AreSettings s) (texts : Table → List ℕ) (given : Settings) (job : JobRows)
    → Comes s in_range given job texts k → IsAccepted given job
by-kind FreeFlow s is in_range texts given job e = free s in_range given job texts is e
by-kind Assigning s is in_range texts given job e = loading s in_range given job texts is e
by-kind Skimming s is in_range texts given job e = skim s in_range given job texts is e
by-kind Sweeping s is in_range texts given job e = sweep s in_range given job texts is e
by-kind Auditing s is in_range texts given job e = audit s in_range given job texts is e

by-settings : (o : Option Settings) (texts : Table → List ℕ) (given : Settings) (job : JobRows) → ((s : Settings) → o ≡ Some s → AreSettings s)
    → verdict_by o texts ≡ Accepted given job → IsAccepted given job
by-settings None texts given job in_range e = absurd cc
by-settings (Some s) texts given job in_range e = by-kind (kind_of s.command) s refl (in_range s refl) (texts_for s.command texts) given job e

pub accepted_are_sound : (words : List (List ℕ)) (texts : Table → List ℕ) (s : Settings) (job : JobRows) → verdict words texts ≡ Accepted s job → IsAccepted s job
accepted_are_sound words texts s job e = by-settings (settings_of words) texts s job (λ given is. settings_in_range words given is) e
