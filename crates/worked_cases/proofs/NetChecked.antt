-- Rows that pass the test of a network make one.
use Rattle.std.proofs.Common.{◌≡◌, ◌≤◌, ℕ, List, [], ◌∷◌, length, ap, rules, refl, Bool, true, false, nat_eq, nat_lt, not, ◌<◌, zero, suc, subst, arith}
use Rattle.std.specs.Prelude.{All, None, Option, Some, IfSome, IsSome, is_some, nat_le, slice_get}
use Rattle.std.specs.List.{AllByRecursion, IsDistinct, list_all, list_any}
use Rattle.std.proofs.lemmas.List.Elements.{All-cons, All-nil}
use Rattle.std.proofs.lemmas.Bool.{and_parts}
use Rattle.fixed_units.specs.declared.link.TheConstants.{MOST_FREE_STEPS, MOST_STORAGE}
use Rattle.net_core.proofs.Orders.{le_holds, lt_holds}
use Rattle.net_core.specs.Ids.{pair_eq}
use Rattle.net_core.specs.Network.{IsNet}
use Rattle.net_core.specs.Rows.{AreLinks, AreNodes, AreTurns, IsBetween, IsLinkInRange, IsTurnInRange, IsTurning, link_ids, link_in, node_ids, turn_pairs}
use Rattle.net_core.specs.declared.rows.LinkRow.{LinkRow}
use Rattle.net_core.specs.declared.rows.NetRows.{NetRows}
use Rattle.net_core.specs.declared.rows.NodeNo.{NodeNo}
use Rattle.net_core.specs.declared.rows.NodeRow.{NodeRow}
use Rattle.fixed_units.specs.declared.turn.TheConstants.{MOST_PENALTY_STEPS}
use Rattle.fixed_units.specs.declared.link.TheConstants.{MOST_RATE}
use Rattle.net_core.specs.Rates.{AreLinkWindows, AreWindows}
use Rattle.net_core.specs.declared.rates.TheConstants.{MOST_WINDOWS, MOST_WINDOW_STEP}
use Rattle.net_core.specs.declared.rates.Window.{Window}
use Rattle.net_core.specs.declared.rows.TheConstants.{MOST_NODES, MOST_LINKS, MOST_TURNS}
use Rattle.net_core.specs.declared.rows.TurnRow.{TurnRow}
use Rattle.gmns_tables.proofs.StepsFacts.{above, rising}
use Rattle.gmns_tables.specs.Windows.{rise_after}
use Rattle.worked_cases.specs.CheckedNet.{are_link_windows, are_links, are_nodes, are_turns}
use Rattle.worked_cases.specs.CheckedNet.{are_windows, differ, has_range, has_turn_range}
use Rattle.worked_cases.specs.CheckedNet.{has_window_range, is_between, is_net, is_rate}
use Rattle.worked_cases.specs.CheckedNet.{is_turning, rise_from_0}

none-equal : {K : Type 0} (eq : K → K → Bool) (k : K) (ks : List K)
    → not (list_any (eq k) ks) ≡ true → AllByRecursion (λ y. eq k y ≡ false) ks
none-equal eq k [] e = tt
none-equal eq k (x ∷ xs) e = elim (eq k x) as (λ v. eq k x ≡ v
    → AllByRecursion (λ y. eq k y ≡ false) (x ∷ xs)) [
      | true ↦ λ t. absurd (let w = rw t at e in cc)
      | false ↦ λ f. (f, none-equal eq k xs (rw f at e))
    ] refl

distinct-checked : {K : Type 0} (eq : K → K → Bool) (ks : List K) → differ eq ks ≡ true
    → IsDistinct eq ks
unfolding IsDistinct
distinct-checked eq [] e = tt
distinct-checked eq (k ∷ ks) e =
    let parts = and_parts (not (list_any (eq k) ks)) (differ eq ks) e in
    (none-equal eq k ks parts.0, distinct-checked eq ks parts.1)

pub all-checked : {X : Type 0} (P : X → Type 0) (p : X → Bool) → ((x : X) → p x ≡ true → P x)
    → (xs : List X) → list_all p xs ≡ true → All P xs
all-checked P p f [] e = All-nil P
all-checked P p f (x ∷ xs) e =
    let parts = and_parts (p x) (list_all p xs) e in
    All-cons P x xs (f x parts.0) (all-checked P p f xs parts.1)

range-checked : (link : LinkRow) → has_range link ≡ true → IsLinkInRange link
range-checked link e =
    let moves = and_parts (nat_le 1 link.free) _ e in
    let free = and_parts (nat_le link.free MOST_FREE_STEPS) _ moves.1 in
    let stores = and_parts (nat_le 1 link.storage) _ free.1 in
    let storage = and_parts (nat_le link.storage MOST_STORAGE) _ stores.1 in
    record {
      moves = le_holds 1 link.free moves.0;
      free = le_holds link.free MOST_FREE_STEPS free.0;
      stores = le_holds 1 link.storage stores.0;
      storage = le_holds link.storage MOST_STORAGE storage.0;
      rate = le_holds link.rate MOST_RATE storage.1;
    }

rate-checked : (rate : Option ℕ) → is_rate rate ≡ true → IfSome rate (λ r. r ≤ MOST_RATE)
rate-checked None e = tt
rate-checked (Some r) e = le_holds r MOST_RATE e

same-node : (x y : NodeNo) → nat_eq x.0 y.0 ≡ true → x ≡ y
same-node x y e =
    let same : x.0 ≡ y.0 = search (rules, e) in
    let numbered : ℕ → NodeNo = λ n. record { 0 = n } in
    ap numbered same

nodes-checked : (nodes : List NodeRow) → are_nodes nodes ≡ true → AreNodes nodes
nodes-checked nodes e =
    let parts = and_parts (differ nat_eq (node_ids nodes)) _ e in
    record {
      distinct = distinct-checked nat_eq (node_ids nodes) parts.0;
      few = le_holds (length nodes) MOST_NODES parts.1;
    }

links-checked : (links : List LinkRow) → are_links links ≡ true → AreLinks links
links-checked links e =
    let parts = and_parts (differ nat_eq (link_ids links)) _ e in
    let more = and_parts (nat_le (length links) MOST_LINKS) _ parts.1 in
    record {
      distinct = distinct-checked nat_eq (link_ids links) parts.0;
      few = le_holds (length links) MOST_LINKS more.0;
      range = all-checked IsLinkInRange has_range range-checked links more.1;
    }

between-checked : (nodes : List NodeRow) (link : LinkRow) → is_between (length nodes) link ≡ true
    → IsBetween nodes link
between-checked nodes link e =
    let parts = and_parts (nat_lt link.from.0 (length nodes)) _ e in
    record {
      from = lt_holds link.from.0 (length nodes) parts.0;
      to = lt_holds link.to.0 (length nodes) parts.1;
    }

turn_range-checked : (turn : TurnRow) → has_turn_range turn ≡ true → IsTurnInRange turn
turn_range-checked turn e =
    let parts = and_parts (nat_le turn.penalty MOST_PENALTY_STEPS) _ e in
    record {
      penalty = le_holds turn.penalty MOST_PENALTY_STEPS parts.0;
      rate = rate-checked turn.rate parts.1;
    }

turns-checked : (turns : List TurnRow) → are_turns turns ≡ true → AreTurns turns
turns-checked turns e =
    let parts = and_parts (differ pair_eq (turn_pairs turns)) _ e in
    let more = and_parts (nat_le (length turns) MOST_TURNS) _ parts.1 in
    record {
      distinct = distinct-checked pair_eq (turn_pairs turns) parts.0;
      few = le_holds (length turns) MOST_TURNS more.0;
      range = all-checked IsTurnInRange has_turn_range turn_range-checked turns more.1;
    }

turning-checked : (links : List LinkRow) (turn : TurnRow) → is_turning links turn ≡ true
    → IsTurning links turn
turning-checked links turn e =
    let parts = and_parts (nat_lt turn.a.0 (length links)) _ e in
    let more = and_parts (nat_lt turn.b.0 (length links)) _ parts.1 in
    record {
      from = lt_holds turn.a.0 (length links) parts.0;
      to = lt_holds turn.b.0 (length links) more.0;
      meets = same-node (link_in links turn.a.0).to (link_in links turn.b.0).from more.1;
    }

some-same : (v w : Window) → Some v ≡ Some w → v ≡ w
some-same v w e = cc

rise_from_0-first : (ws : List Window) → rise_from_0 ws ≡ true
    → IfSome (slice_get ws 0) (λ w. w.from ≡ 0)
rise_from_0-first [] e = tt
rise_from_0-first (w ∷ ws) e =
    let parts = and_parts (nat_eq w.from 0) (rise_after w.from ws) e in
    let first : w.from ≡ 0 = search (rules, parts.0) in
    first

rise_from_0-rising : (ws : List Window) → rise_from_0 ws ≡ true
    → (i j : ℕ) (v w : Window) → i < j → slice_get ws i ≡ Some v → slice_get ws j ≡ Some w
    → v.from < w.from
rise_from_0-rising [] e i j v w b f g = absurd cc
rise_from_0-rising (x ∷ ws) e i zero v w b f g = absurd (omega arith)
rise_from_0-rising (x ∷ ws) e zero (suc j) v w b f g =
    let parts = and_parts (nat_eq x.from 0) (rise_after x.from ws) e in
    let same : x ≡ v = some-same x v f in
    subst (λ (y : Window). y.from < w.from) same (above x.from ws j w parts.1 g)
rise_from_0-rising (x ∷ ws) e (suc i) (suc j) v w b f g =
    let parts = and_parts (nat_eq x.from 0) (rise_after x.from ws) e in
    rising x.from ws i j v w parts.1 (omega arith) f g

windows-checked : (ws : List Window) → are_windows ws ≡ true → AreWindows ws
windows-checked ws e =
    let few = and_parts (nat_le (length ws) MOST_WINDOWS) _ e in
    let rise = and_parts (rise_from_0 ws) _ few.1 in
    let IsEarly : Window → Type 0 = λ w. w.from ≤ MOST_WINDOW_STEP in
    let IsInRange : Window → Type 0 = λ w. IfSome w.rate (λ rate. rate ≤ MOST_RATE) in
    record {
      few = le_holds (length ws) MOST_WINDOWS few.0;
      first = rise_from_0-first ws rise.0;
      rising = rise_from_0-rising ws rise.0;
      early = all-checked IsEarly has_window_range
          (λ w h. le_holds w.from MOST_WINDOW_STEP (and_parts (nat_le w.from MOST_WINDOW_STEP) _ h).0)
          ws rise.1;
      range = all-checked IsInRange has_window_range
          (λ w h. rate-checked w.rate (and_parts (nat_le w.from MOST_WINDOW_STEP) _ h).1)
          ws rise.1;
    }

some-given : (rate : Option ℕ) → is_some rate ≡ true → IsSome rate
some-given None e = absurd cc
some-given (Some r) e = refl

rate-some : (w : Window) → is_some w.rate ≡ true → IsSome w.rate
rate-some w e = some-given w.rate e

link_windows-checked : (ws : List Window) → are_link_windows ws ≡ true → AreLinkWindows ws
link_windows-checked ws e =
    let parts = and_parts (are_windows ws) _ e in
    let IsGiven : Window → Type 0 = λ w. IsSome w.rate in
    record {
      windows = windows-checked ws parts.0;
      given = all-checked IsGiven (λ w. is_some w.rate) rate-some ws parts.1;
    }

-- rows that pass the test make a network
pub net-checked : (net : NetRows) → is_net net ≡ true → IsNet net
net-checked net e =
    let nodes = and_parts (are_nodes net.nodes) _ e in
    let links = and_parts (are_links net.links) _ nodes.1 in
    let between = and_parts (list_all (is_between (length net.nodes)) net.links) _ links.1 in
    let turns = and_parts (are_turns net.turns) _ between.1 in
    let turning = and_parts (list_all (is_turning net.links) net.turns) _ turns.1 in
    let of_links = and_parts (list_all are_link_windows net.link_windows) _ turning.1 in
    let of_turns = and_parts (list_all are_windows net.turn_windows) _ of_links.1 in
    let few = and_parts (nat_le (length net.link_windows) (length net.links)) _ of_turns.1 in
    record {
      nodes = nodes-checked net.nodes nodes.0;
      links = links-checked net.links links.0;
      between =
          all-checked (IsBetween net.nodes) (is_between (length net.nodes)) (between-checked net.nodes)
          net.links between.0;
      turns = turns-checked net.turns turns.0;
      turning =
          all-checked (IsTurning net.links) (is_turning net.links) (turning-checked net.links)
          net.turns turning.0;
      link_windows =
          all-checked AreLinkWindows are_link_windows link_windows-checked net.link_windows of_links.0;
      turn_windows =
          all-checked AreWindows are_windows windows-checked net.turn_windows of_turns.0;
      of_links = le_holds (length net.link_windows) (length net.links) few.0;
      of_turns = le_holds (length net.turn_windows) (length net.turns) few.1;
    }
