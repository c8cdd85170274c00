-- The rows of accepted node, link and movement tables are in range.
use Rattle.std.proofs.Common.{◌≡◌, ◌≤◌, ◌<◌, ◌*◌, ◌/◌, ◌^◌, ℕ, true, false, List, [], ◌∷◌, ◌++◌, length, length-append, cond, refl, ap, sym, subst, arith, nat_eq, nat_le}
use Rattle.std.specs.Prelude.{not, All, IfSome, IsSome, Option, None, Some, Result, Ok, Err, is_some, option_map}
use Rattle.std.specs.Cmp.{nat_eq_equiv}
use Rattle.std.specs.List.{IsDistinct}
use Rattle.std.proofs.lemmas.Bool.{and_parts, leb-true}
use Rattle.std.proofs.lemmas.List.{length-map, map_push}
use Rattle.std.proofs.lemmas.List.Elements.{All-cons, All-map, All-nil, All-push}
use Rattle.fixed_units.specs.Zone.{zone_of}
use Rattle.fixed_units.specs.Quantity.{milli_of, number}
use Rattle.fixed_units.specs.Quantity.{within as within_limit}
use Rattle.fixed_units.specs.Units.{free_steps_of, length_of, steps_at_free_speed, turn_rate_of}
use Rattle.fixed_units.specs.declared.fault.NumberFault.{NumberFault}
use Rattle.fixed_units.specs.declared.link.TheConstants.{MOST_FREE_STEPS, MOST_LANES, MOST_RATE, MOST_STORAGE}
use Rattle.fixed_units.specs.declared.link.TooSlow.{TooSlow}
use Rattle.fixed_units.specs.declared.measure.Length.{Length}
use Rattle.fixed_units.specs.declared.measure.Speed.{Speed}
use Rattle.fixed_units.specs.declared.quantity.TheConstants.{MOST_THOUSANDTHS}
use Rattle.fixed_units.specs.declared.turn.TheConstants.{MOST_PENALTY}
use Rattle.fixed_units.specs.declared.units.Units.{Units}
use Rattle.desk_io.specs.declared.desk.Table.TheVariants as table
use Rattle.row_reader.specs.Columns.{text}
use Rattle.row_reader.specs.Fields.{identifier, optional_quantity, quantity, quantity_or, then_with, unless}
use Rattle.row_reader.specs.Records.{Record}
use Rattle.row_reader.specs.Rows.{FieldsView}
use Rattle.row_reader.specs.declared.faults.Code.TheVariants as code
use Rattle.row_reader.specs.declared.faults.Column.TheVariants as column
use Rattle.net_core.specs.Ids.{place_of, place_of_pair}
use Rattle.net_core.specs.Rates.{AreLinkWindows, AreWindows}
use Rattle.net_core.specs.Rows.{AreLinks, AreNodes, AreTurns, IsBetween, IsLinkInRange, IsTurnInRange, IsTurning, link_ids, node_ids, turn_pairs}
use Rattle.net_core.specs.declared.rates.TheConstants.{MOST_WINDOW_STEP}
use Rattle.net_core.specs.declared.rates.Window.{Window}
use Rattle.net_core.specs.declared.rows.LinkRow.{LinkRow}
use Rattle.net_core.specs.declared.rows.NodeRow.{NodeRow}
use Rattle.net_core.specs.declared.rows.TheConstants.{MOST_LINKS, MOST_NODES, MOST_TURNS}
use Rattle.net_core.specs.declared.rows.TurnRow.{TurnRow}
use Rattle.gmns_tables.specs.Links.{capacity_of, free_speed_of, is_undirected, lanes_of, link_of, link_columns, link_verdict, steps_told}
use Rattle.gmns_tables.specs.Movements.{begins_at, ends_at, movement_of, movement_columns, movement_verdict, penalty_of}
use Rattle.gmns_tables.specs.Names.{known_link, known_node}
use Rattle.gmns_tables.specs.Nodes.{node_of, node_verdict, zone_told}
use Rattle.gmns_tables.specs.RowsWithWindows.{AreLinkRows, AreTurnRows, rows_of, windows_of}
use Rattle.gmns_tables.specs.Windows.{AreWindowsOf, IsRateOf, IsWindowOf, capacity_text, in_order, is_form, is_no_limit, parts_of, rate_in, step_text, window_in, windows_by_step, windows_in}
use Rattle.gmns_tables.specs.declared.with_windows.WithWindows.{WithWindows}
use Rattle.gmns_tables.proofs.BetweenFacts.{link_of-between}
use Rattle.gmns_tables.proofs.ChainFacts.{unless-ok}
use Rattle.gmns_tables.proofs.NetFacts.{no-turns}
use Rattle.gmns_tables.proofs.StepsFacts.{are_windows}
use Rattle.gmns_tables.proofs.TableFacts.{tells-all}
use Rattle.gmns_tables.proofs.TurningFacts.{movement_of-turning}
use Rattle.demand.proofs.DemandFacts.{milli-below, within-high, within-limit}
use Rattle.reference.proofs.FieldsInRange.{fresh, optional-below, pair_eq_equiv, penalty-below, quantity_or-below, rate-below, stored}
use Rattle.row_reader.proofs.Kept.{Before, chosen, kept, next_ok, same_Ok}

-- ---- nodes

node-more : (before : List NodeRow) (r : FieldsView) (row : NodeRow) → node_of before r ≡ Ok row
    → length before < MOST_NODES → AreNodes before → AreNodes (before ++ row ∷ [])
unfolding node_of
node-more before r row e room are =
    next_ok (identifier column.NodeId (text r column.NodeId)) _ row e (λ id _ e1.
    next_ok (unless (is_some (place_of (node_ids before) id)) code.E6 column.NodeId) _ row e1 (λ _ new e2.
    next_ok (zone_told (zone_of (text r column.ZoneId))) _ row e2 (λ zone _ e3.
    subst (λ (node : NodeRow). AreNodes (before ++ node ∷ [])) (same_Ok _ _ e3) (record {
      distinct = fresh nat_eq_equiv (λ (node : NodeRow). node.id) before (record { id = id; zone = zone }) are.distinct (unless-ok _ code.E6 column.NodeId new);
      few = omega (arith, length-append {A = NodeRow});
    }))))

no-nodes : AreNodes []
unfolding IsDistinct
no-nodes = record { distinct = tt; few = omega arith }

pub are-nodes : (all : List Record) (nodes : List NodeRow) → node_verdict all ≡ Ok nodes → AreNodes nodes
are-nodes all nodes e = kept AreNodes table.Node MOST_NODES (column.NodeId ∷ []) node_of node-more all nodes e no-nodes

-- ---- windows

-- what windows are of
abbrev Kind : Type 0
Kind = Before windows_by_step

abbrev RatesAre : Kind → Type 0
RatesAre kind = (text : List ℕ) (rate : Option ℕ) → rate_in kind text ≡ Ok rate → IsRateOf kind rate

window-is : (kind : Kind) (part : List ℕ) (w : Window) → RatesAre kind → window_in kind part ≡ Ok w → IsWindowOf kind w
unfolding window_in
window-is kind part w rates e =
    next_ok (within_limit MOST_WINDOW_STEP (number (step_text part))) _ w e (λ from from-is e1.
    next_ok (rate_in kind (capacity_text part)) _ w e1 (λ rate rate-is e2.
    subst (IsWindowOf kind) (same_Ok _ _ e2) (record {
      early = within-limit MOST_WINDOW_STEP (number (step_text part)) from from-is;
      rate = rates (capacity_text part) rate rate-is;
    })))

windows-are : (kind : Kind) (parts : List (List ℕ)) (ws : List Window) → RatesAre kind → windows_in kind parts ≡ Ok ws → All (IsWindowOf kind) ws
windows-are kind [] ws rates e = subst (All (IsWindowOf kind)) (same_Ok _ _ e) (All-nil (IsWindowOf kind))
windows-are kind (part ∷ parts) ws rates e =
    next_ok (window_in kind part) _ ws e (λ w here e1.
    next_ok (windows_in kind parts) _ ws e1 (λ more there e2.
    subst (All (IsWindowOf kind)) (same_Ok _ _ e2)
    (All-cons (IsWindowOf kind) w more (window-is kind part w rates here) (windows-are kind parts more rates there))))

in-order : (kind : Kind) (r : Result (List Window) NumberFault) (ws : List Window) → in_order r ≡ Ok ws → ((vs : List Window) → r ≡ Ok vs → All (IsWindowOf kind) vs) → AreWindowsOf kind ws
in-order kind (Ok vs) ws e range =
    let is = chosen _ (Ok vs) _ ws e in
    let parts = and_parts _ _ is.0 in
    subst (AreWindowsOf kind) (same_Ok vs ws is.1) (are_windows kind vs (leb-true _ _ parts.0) parts.1 (range vs refl))
in-order kind (Err fault) ws e range = absurd cc

-- windows that a text tells
windows-told : (kind : Kind) (text : List ℕ) (ws : List Window) → windows_by_step kind text ≡ Ok ws → AreWindowsOf kind [] → RatesAre kind → AreWindowsOf kind ws
unfolding windows_by_step
windows-told kind text ws e none rates = elim (nat_eq (length text) 0) as (λ b. nat_eq (length text) 0 ≡ b → AreWindowsOf kind ws) [
  | true ↦ λ empty. subst (AreWindowsOf kind) (same_Ok [] ws (rw empty at e)) none
  | false ↦ λ some.
      let form = chosen (is_form kind text) _ _ ws (rw some at e) in
      in-order kind (windows_in kind (parts_of text)) ws form.1 (λ vs is. windows-are kind (parts_of text) vs rates is)
] refl

no-windows : AreWindows []
no-windows = record {
  few = omega arith;
  first = tt;
  rising = λ i j v w less at. absurd cc;
  early = All-nil _;
  range = All-nil _;
}

link-rate : (lanes : ℕ) → lanes ≤ MOST_LANES → (text : List ℕ) (rate : Option ℕ) → then_with (milli_of text) (λ capacity. Ok (Some (capacity * lanes))) ≡ Ok rate
    → IsSome rate × IfSome rate (λ n. n ≤ MOST_RATE)
link-rate lanes few text rate e =
    next_ok (milli_of text) _ rate e (λ capacity is e1.
    subst (λ (o : Option ℕ). IsSome o × IfSome o (λ n. n ≤ MOST_RATE)) (same_Ok _ _ e1) (refl, rate-below capacity lanes (milli-below text capacity is) few))

turn-rate : (text : List ℕ) (rate : Option ℕ) → cond (is_no_limit text) (Ok None) (then_with (milli_of text) (λ capacity. Ok (Some (capacity * 1000)))) ≡ Ok rate
    → IfSome rate (λ n. n ≤ MOST_RATE)
turn-rate text rate e = elim (is_no_limit text) as (λ b. is_no_limit text ≡ b → IfSome rate (λ n. n ≤ MOST_RATE)) [
  | true ↦ λ none. subst (λ (o : Option ℕ). IfSome o (λ n. n ≤ MOST_RATE)) (same_Ok None rate (rw none at e)) tt
  | false ↦ λ some.
      next_ok (milli_of text) _ rate (rw some at e) (λ capacity is e1.
      subst (λ (o : Option ℕ). IfSome o (λ n. n ≤ MOST_RATE)) (same_Ok _ _ e1) (rate-below capacity 1000 (milli-below text capacity is) (omega arith)))
] refl

-- ---- links

lanes-below : (text : List ℕ) (lanes : ℕ) → lanes_of text ≡ Ok lanes → lanes ≤ MOST_LANES
lanes-below text lanes e = next_ok (quantity_or 1000 column.Lanes text) _ lanes e (λ n _ e1. within-high column.Lanes 0 MOST_LANES n lanes e1)

steps-told : (r : Result ℕ TooSlow) (free : ℕ) → steps_told r ≡ Ok free → r ≡ Ok free
steps-told (Ok steps) free e = ap Ok (same_Ok steps free e)
steps-told (Err slow) free e = absurd cc

free-steps : (size : Length) (speed : Speed) (delta free : ℕ) → free_steps_of size speed delta ≡ Ok free → (1 ≤ free) × (free ≤ MOST_FREE_STEPS)
free-steps size speed delta free e =
    let is = chosen (nat_le (steps_at_free_speed size speed delta) MOST_FREE_STEPS) (Ok (steps_at_free_speed size speed delta)) _ free e in
    subst (λ n. (1 ≤ n) × (n ≤ MOST_FREE_STEPS)) (same_Ok _ _ is.1) (omega arith, leb-true _ _ is.0)

links-push : (rows : List LinkRow) (row : LinkRow) → AreLinks rows → length rows < MOST_LINKS → IsLinkInRange row → is_some (place_of (link_ids rows) row.id) ≡ false
    → AreLinks (rows ++ row ∷ [])
links-push rows row are room range new = record {
  distinct = fresh nat_eq_equiv (λ (link : LinkRow). link.id) rows row are.distinct new;
  few = omega (arith, length-append {A = LinkRow});
  range = All-push IsLinkInRange rows row are.range range;
}

link_rows-push : (before : List (WithWindows LinkRow)) (link : WithWindows LinkRow) → AreLinkRows before → length before < MOST_LINKS → IsLinkInRange link.row
    → is_some (place_of (link_ids (rows_of before)) link.row.id) ≡ false → AreLinkWindows link.windows → AreLinkRows (before ++ link ∷ [])
link_rows-push before link are room range new windows = record {
  rows = subst AreLinks (sym (map_push (λ (l : WithWindows LinkRow). l.row) before link))
      (links-push (rows_of before) link.row are.rows (omega (arith, length-map before (λ (l : WithWindows LinkRow). l.row))) range new);
  windows = subst (All AreLinkWindows) (sym (map_push (λ (l : WithWindows LinkRow). l.windows) before link))
      (All-push AreLinkWindows (windows_of before) link.windows are.windows windows);
}

module _ (nodes : List NodeRow) (units : Units) where
  link-more : (before : List (WithWindows LinkRow)) (r : FieldsView) (link : WithWindows LinkRow)
      → link_of nodes units before r ≡ Ok link → length before < MOST_LINKS → AreLinkRows before → AreLinkRows (before ++ link ∷ [])
  unfolding link_of
  link-more before r link e room are =
      next_ok (identifier column.LinkId (text r column.LinkId)) _ link e (λ id _ e1.
      next_ok (unless (is_some (place_of (link_ids (rows_of before)) id)) code.E6 column.LinkId) _ link e1 (λ _ new e2.
      next_ok (known_node nodes column.FromNodeId (text r column.FromNodeId)) _ link e2 (λ from _ e3.
      next_ok (known_node nodes column.ToNodeId (text r column.ToNodeId)) _ link e3 (λ to _ e4.
      next_ok (unless (is_undirected (text r column.Directed)) code.E10 column.Directed) _ link e4 (λ _ _ e5.
      next_ok (quantity column.Length (text r column.Length)) _ link e5 (λ size _ e6.
      next_ok (lanes_of (text r column.Lanes)) _ link e6 (λ lanes lanes-are e7.
      next_ok (free_speed_of units.speed (text r column.FreeSpeed)) _ link e7 (λ speed _ e8.
      next_ok (steps_told (free_steps_of (length_of size units.length) speed units.delta)) _ link e8 (λ free free-is e9.
      next_ok (capacity_of (text r column.Capacity)) _ link e9 (λ capacity capacity-is e10.
      next_ok (windows_by_step _ (text r column.CapacityByStep)) _ link e10 (λ windows windows-are e11.
      let steps = free-steps (length_of size units.length) speed units.delta free (steps-told (free_steps_of (length_of size units.length) speed units.delta) free free-is) in
      let whole = quantity_or-below 1800000 column.Capacity (text r column.Capacity) capacity (omega arith) capacity-is in
      let space = stored MOST_STORAGE ((length_of size units.length).micrometres * lanes * units.jam / 10 ^ 12) (omega arith) in
      let few = lanes-below (text r column.Lanes) lanes lanes-are in
      subst (λ (l : WithWindows LinkRow). AreLinkRows (before ++ l ∷ [])) (same_Ok _ _ e11)
      (link_rows-push before _ are room
      (record { moves = steps.0; free = steps.1; stores = space.0; storage = space.1; rate = rate-below capacity lanes whole few })
      (unless-ok _ code.E6 column.LinkId new)
      (windows-told _ (text r column.CapacityByStep) windows windows-are (record { windows = no-windows; given = All-nil _ }) (link-rate lanes few))))))))))))))

  no-links : AreLinkRows []
  unfolding IsDistinct
  no-links = record { rows = record { distinct = tt; few = omega arith; range = All-nil IsLinkInRange }; windows = All-nil AreLinkWindows }

  pub are-links : (all : List Record) (links : List (WithWindows LinkRow)) → link_verdict nodes units all ≡ Ok links → AreLinkRows links
  are-links all links e = kept AreLinkRows table.Link MOST_LINKS link_columns (link_of nodes units) link-more all links e no-links

  pub are-between : (all : List Record) (links : List (WithWindows LinkRow)) → link_verdict nodes units all ≡ Ok links → All (IsBetween nodes) (rows_of links)
  are-between all links e =
      All-map (IsBetween nodes) (λ (link : WithWindows LinkRow). link.row) links
      (tells-all (λ (link : WithWindows LinkRow). IsBetween nodes link.row) table.Link MOST_LINKS link_columns (link_of nodes units)
      (link_of-between nodes units) all (Ok links) e)

-- ---- turns

option-rate : (o : Option ℕ) → IfSome o (λ n. n ≤ MOST_THOUSANDTHS) → IfSome (option_map turn_rate_of o) (λ rate. rate ≤ MOST_RATE)
option-rate None few = tt
option-rate (Some n) few = rate-below n 1000 few (omega arith)

penalty-few : (text : List ℕ) (penalty : ℕ) → penalty_of text ≡ Ok penalty → penalty ≤ MOST_PENALTY
penalty-few text penalty e = next_ok (quantity_or 0 column.Penalty text) _ penalty e (λ n _ e1. within-high column.Penalty 0 MOST_PENALTY n penalty e1)

turns-push : (rows : List TurnRow) (row : TurnRow) → AreTurns rows → length rows < MOST_TURNS → IsTurnInRange row → is_some (place_of_pair (turn_pairs rows) row.a.0 row.b.0) ≡ false
    → AreTurns (rows ++ row ∷ [])
turns-push rows row are room range new = record {
  distinct = fresh pair_eq_equiv (λ (turn : TurnRow). (turn.a.0, turn.b.0)) rows row are.distinct new;
  few = omega (arith, length-append {A = TurnRow});
  range = All-push IsTurnInRange rows row are.range range;
}

turn_rows-push : (before : List (WithWindows TurnRow)) (turn : WithWindows TurnRow) → AreTurnRows before → length before < MOST_TURNS → IsTurnInRange turn.row
    → is_some (place_of_pair (turn_pairs (rows_of before)) turn.row.a.0 turn.row.b.0) ≡ false → AreWindows turn.windows → AreTurnRows (before ++ turn ∷ [])
turn_rows-push before turn are room range new windows = record {
  rows = subst AreTurns (sym (map_push (λ (t : WithWindows TurnRow). t.row) before turn))
      (turns-push (rows_of before) turn.row are.rows (omega (arith, length-map before (λ (t : WithWindows TurnRow). t.row))) range new);
  windows = subst (All AreWindows) (sym (map_push (λ (t : WithWindows TurnRow). t.windows) before turn))
      (All-push AreWindows (windows_of before) turn.windows are.windows windows);
}

module _ (nodes : List NodeRow) (links : List LinkRow) (units : Units) (some : 1 ≤ units.delta) where
  turn-more : (before : List (WithWindows TurnRow)) (r : FieldsView) (turn : WithWindows TurnRow)
      → movement_of nodes links units before r ≡ Ok turn → length before < MOST_TURNS → AreTurnRows before → AreTurnRows (before ++ turn ∷ [])
  unfolding movement_of
  turn-more before r turn e room are =
      next_ok (known_node nodes column.NodeId (text r column.NodeId)) _ turn e (λ node _ e1.
      next_ok (known_link links column.IbLinkId (text r column.IbLinkId)) _ turn e1 (λ a _ e2.
      next_ok (unless (not (ends_at links a node)) code.E9 column.IbLinkId) _ turn e2 (λ _ _ e3.
      next_ok (known_link links column.ObLinkId (text r column.ObLinkId)) _ turn e3 (λ b _ e4.
      next_ok (unless (not (begins_at links b node)) code.E9 column.ObLinkId) _ turn e4 (λ _ _ e5.
      next_ok (unless (is_some (place_of_pair (turn_pairs (rows_of before)) a.0 b.0)) code.E6 column.ObLinkId) _ turn e5 (λ _ new e6.
      next_ok (penalty_of (text r column.Penalty)) _ turn e6 (λ penalty penalty-is e7.
      next_ok (optional_quantity column.Capacity (text r column.Capacity)) _ turn e7 (λ capacity capacity-is e8.
      next_ok (windows_by_step _ (text r column.CapacityByStep)) _ turn e8 (λ windows windows-are e9.
      subst (λ (t : WithWindows TurnRow). AreTurnRows (before ++ t ∷ [])) (same_Ok _ _ e9)
      (turn_rows-push before _ are room
      (record {
        penalty = penalty-below penalty units.delta (penalty-few (text r column.Penalty) penalty penalty-is) some;
        rate = option-rate capacity (optional-below column.Capacity (text r column.Capacity) capacity capacity-is);
      })
      (unless-ok _ code.E6 column.ObLinkId new)
      (windows-told _ (text r column.CapacityByStep) windows windows-are no-windows turn-rate)))))))))))

  pub are-turns : (all : List Record) (turns : List (WithWindows TurnRow)) → movement_verdict nodes links units all ≡ Ok turns → AreTurnRows turns
  are-turns all turns e = kept AreTurnRows table.Movement MOST_TURNS movement_columns (movement_of nodes links units) turn-more all turns e no-turns

  pub are-turning : (all : List Record) (turns : List (WithWindows TurnRow)) → movement_verdict nodes links units all ≡ Ok turns → All (IsTurning links) (rows_of turns)
  are-turning all turns e =
      All-map (IsTurning links) (λ (turn : WithWindows TurnRow). turn.row) turns
      (tells-all (λ (turn : WithWindows TurnRow). IsTurning links turn.row) table.Movement MOST_TURNS movement_columns (movement_of nodes links units)
      (movement_of-turning nodes links units) all (Ok turns) e)
