-- The ways on from the links of a network are its turns.
use Rattle.std.proofs.Common.{◌≡◌, ◌⊎◌, inl, inr, ℕ, suc, ◌+◌, ◌-◌, ◌<◌, ◌≤◌, Bool, true, false, cond, List, [], ◌∷◌, ◌++◌, length, refl, ap, sym, ◌∙◌, subst, arith, rules, take, drop, Option, Some, None, get_or, nat_eq}
use Rattle.std.specs.Prelude.{◌&&◌, slice_get, All, find, nat_lt}
use Rattle.std.specs.List.{slice_range}
use Rattle.std.proofs.lemmas.Bool.{cases_lt}
use Rattle.std.proofs.lemmas.Bool.Decides.{nat_tests}
use Rattle.std.proofs.Math.Seq.{drop-append_seam, take-append_seam}
use Rattle.std.proofs.lemmas.List.{append-nil, length-append, length-drop, get_or_append_left, take-append-le, drop-append-le, get_or-append-add}
use Rattle.std.proofs.lemmas.List.Elements.{All-append}
use Rattle.std.proofs.lemmas.Option.{slice_get-get_or}
use Rattle.std.proofs.lemmas.Bool.{and_parts}
use Rattle.net_core.specs.Network.{as_links, as_turn, free_turn, IsNet, is_named, link_at, outs, turn, turn_at, zone_id, zone_of, zones}
use Rattle.net_core.specs.declared.rows.NetRows.{NetRows}
use Rattle.fixed_units.specs.declared.turn.TheConstants.{MOST_PENALTY_STEPS}
use Rattle.net_core.specs.declared.rows.Turn.{Turn}
use Rattle.net_core.specs.declared.rows.TurnRow.{TurnRow}
use Rattle.net_core.specs.Rows.{IsTurnInRange}
use Rattle.dta_model.specs.Walks.{ends_in, is_zone}
use Rattle.labels.specs.Named.{zone_named}
use Rattle.labels.specs.States.Onwards.{ways_from, zone_or_none, end_zone, AreStates, AreOnwards}
use Rattle.labels.specs.Filling.Rests.{AreTurns, AreOrdered}
use Rattle.labels.specs.States.Routers.{wait_of, wait_between, ends_to, ways_to}
use Rattle.labels.specs.Reading.Serves.{IsRouter}
use Rattle.labels.specs.States.RouterWays.{is_own, onwards, state_of}
use Rattle.labels.specs.States.Routers.{ways_of}
use Rattle.labels.specs.declared.states.onward.Onward.{Onward}
use Rattle.labels.specs.declared.states.router.Router.{Router}
use Rattle.labels.proofs.OfStates.ZoneFacts.{zone_same, and_true}
use Rattle.labels.proofs.OfStates.OnwardFacts.{way_is, is_way, ways_rise, out_is, is_out, outs_rise, link_stands, as_link_stands}
use Rattle.labels.proofs.Basics.{is_below}

-- penalties are in range
found-in : (rows : List TurnRow) (p : TurnRow → Bool) (way : Turn) → All IsTurnInRange rows → as_turn (find p rows) ≡ Some way → way.penalty ≤ MOST_PENALTY_STEPS
found-in [] p way all h = cc
found-in (row ∷ rows) p way all h = by (p row) (λ e. found-in rows p way (λ k d n. all (suc k) d (omega (arith, n))) e) h
  where
    told : as_turn (Some row) ≡ Some way → row.penalty ≡ way.penalty
    told e = cc

    by : (b : Bool) → (as_turn (find p rows) ≡ Some way → way.penalty ≤ MOST_PENALTY_STEPS) → as_turn (cond b (Some row) (find p rows)) ≡ Some way → way.penalty ≤ MOST_PENALTY_STEPS
    by true ih e = let t = told e in let r = (all 0 row (omega arith)).penalty in omega (arith, t, r)
    by false ih e = ih e

pub penalty-in : (net : NetRows) (a b : ℕ) (way : Turn) → IsNet net → turn net a b ≡ Some way → way.penalty ≤ MOST_PENALTY_STEPS
unfolding turn turn_at
penalty-in net a b way sound h = by (nat_eq (link_at net b).from.0 (link_at net a).to.0) (is_named net (link_at net a).to.0) h
  where
    free-is : Some free_turn ≡ Some way → way.penalty ≡ 0
    free-is e = cc

    by : (m n : Bool) → cond m (cond n (as_turn (find (λ row. nat_eq row.a.0 a && nat_eq row.b.0 b) net.turns)) (Some free_turn)) None ≡ Some way → way.penalty ≤ MOST_PENALTY_STEPS
    by true true e = found-in net.turns (λ row. nat_eq row.a.0 a && nat_eq row.b.0 b) way sound.turns.range e
    by true false e = let z = free-is e in omega (arith, z)
    by false n e = cc

pub meets : (net : NetRows) (a b : ℕ) (way : Turn) → turn net a b ≡ Some way → nat_eq (link_at net b).from.0 (link_at net a).to.0 ≡ true
unfolding turn
meets net a b way h = by (nat_eq (link_at net b).from.0 (link_at net a).to.0) h
  where
    by : (m : Bool) → cond m (turn_at net (link_at net a).to.0 a b) None ≡ Some way → m ≡ true
    by true e = refl
    by false e = cc

-- parts of a list that grows
range_stays : (xs ys : List Onward) (a b : ℕ) → a ≤ b → b ≤ length xs → slice_range (xs ++ ys) a b ≡ slice_range xs a b
range_stays xs ys a b h k =
    ap (λ l. take (b - a) l) (drop-append-le a xs ys (omega (arith, h, k)))
    ∙ take-append-le (b - a) (drop a xs) ys (let n = length-drop a xs in omega (arith, n, h, k))

range_new : (xs ys : List Onward) → slice_range (xs ++ ys) (length xs) (length (xs ++ ys)) ≡ ys
range_new xs ys =
    let many : length (xs ++ ys) - length xs ≡ length ys = (let n = length-append xs ys in omega (arith, n)) in
    ap (λ l. take (length (xs ++ ys) - length xs) l) (drop-append_seam xs ys)
    ∙ ap (λ n. take n ys) many
    ∙ ap (λ l. take (length ys) l) (sym (append-nil ys))
    ∙ take-append_seam ys []

pub AreOnwards_none : (net : NetRows) (states leads : List ℕ) → AreOnwards net states leads (0 ∷ []) [] [] 0
AreOnwards_none net states leads = record {
  zoned = refl;
  started = refl;
  last = refl;
  order = λ s h. absurd (omega (arith, h));
  are = λ s h. absurd (omega (arith, h));
  zone = λ s h. absurd (omega (arith, h));
  to = λ k d h. absurd (omega (arith, h));
  link = λ k d h. absurd (omega (arith, h));
  wait = λ k d h. absurd (omega (arith, h));
}

module _ (net : NetRows) (states leads : List ℕ) (sound : IsNet net) (st : AreStates net states leads) where
  -- each way on from a link is in range
  way_in : (a k : ℕ) (d : Onward) → k < length (ways_from net states a) → let w : Onward = get_or (ways_from net states a) k d in (w.to < length leads) × (w.link < length net.links) × (w.wait ≤ MOST_PENALTY_STEPS)
  way_in a k d h =
      let bs = as_links (outs net (link_at net a).to.0) in
      let w : Onward = get_or (ways_from net states a) k d in
      let i = way_is net states a bs k w (slice_get-get_or (ways_from net states a) k d h) in
      let b = i.1 in
      let t = i.2 in
      let out = out_is net (link_at net a).to.0 (i.0) b.0 (link_stands (outs net (link_at net a).to.0) (i.0) b (i.3)) in
      let to : w.to ≡ get_or states b.0 0 = ap (λ x. x.to) (i.5) in
      let link : w.link ≡ b.0 = ap (λ x. x.link) (i.5) in
      let wait : w.wait ≡ t.penalty = ap (λ x. x.wait) (i.5) in
      let inside = st.inside b.0 0 (omega (arith, out.0, st.many)) in
      let short = penalty-in net a b.0 t sound (i.4) in
      (omega (arith, to, inside), omega (arith, link, out.0), omega (arith, wait, short))

  pub AreOnwards_more : (starts : List ℕ) (ways : List Onward) (zs : List ℕ) (count a : ℕ) (new_starts : List ℕ) (new_ways : List Onward) (new_zones : List ℕ)
      → a ≡ get_or leads count 0 → new_ways ≡ ways ++ ways_from net states a → new_starts ≡ starts ++ length new_ways ∷ [] → new_zones ≡ zs ++ end_zone net a ∷ []
      → AreOnwards net states leads starts ways zs count → AreOnwards net states leads new_starts new_ways new_zones (count + 1)
  AreOnwards_more starts ways zs count a new_starts new_ways new_zones lead grown begun zoned o = record {
    zoned = (let z = ap (λ l. length l) zoned in let n = length-append zs (end_zone net a ∷ []) in omega (arith, z, n, o.zoned));
    started = (let z = ap (λ l. length l) begun in let n = length-append starts (length new_ways ∷ []) in omega (arith, z, n, o.started));
    last = new_last;
    order = λ s h. order_at s h (cases_lt s count);
    are = λ s h. are_at s h (cases_lt s count);
    zone = λ s h. zone_at_state s h (cases_lt s count);
    to = subst (λ l. All (λ w. w.to < length leads) l) (sym grown) (All-append (λ w. w.to < length leads) ways (ways_from net states a) o.to (λ k d h. (way_in a k d h).0));
    link = subst (λ l. All (λ w. w.link < length net.links) l) (sym grown) (All-append (λ w. w.link < length net.links) ways (ways_from net states a) o.link (λ k d h. (way_in a k d h).1));
    wait = subst (λ l. All (λ w. w.wait ≤ MOST_PENALTY_STEPS) l) (sym grown) (All-append (λ w. w.wait ≤ MOST_PENALTY_STEPS) ways (ways_from net states a) o.wait (λ k d h. (way_in a k d h).2));
  }
    where
      start_at : (s : ℕ) → s ≤ count → get_or new_starts s 0 ≡ get_or starts s 0
      start_at s h = ap (λ l. get_or l s 0) begun ∙ get_or_append_left starts (length new_ways ∷ []) 0 s (omega (arith, h, o.started))

      new_last : get_or new_starts (count + 1) 0 ≡ length new_ways
      new_last =
          let place : count + 1 ≡ length starts + 0 = omega (arith, o.started) in
          ap (λ l. get_or l (count + 1) 0) begun ∙ ap (λ n. get_or (starts ++ length new_ways ∷ []) n 0) place ∙ get_or-append-add starts (length new_ways ∷ []) 0 0

      more : length ways ≤ length new_ways
      more = let z = ap (λ l. length l) grown in let n = length-append ways (ways_from net states a) in omega (arith, z, n)

      order_at : (s : ℕ) → s < count + 1 → (s < count) ⊎ (count ≤ s) → (get_or new_starts s 0 ≤ get_or new_starts (s + 1) 0) × (get_or new_starts (s + 1) 0 ≤ length new_ways)
      order_at s h (inl less) =
          let a0 = start_at s (omega (arith, less)) in
          let b0 = start_at (s + 1) (omega (arith, less)) in
          let w = o.order s less in
          (omega (arith, a0, b0, w.0), omega (arith, b0, w.1, more))
      order_at s h (inr above) =
          let here : s ≡ count = omega (arith, h, above) in
          let a0 : get_or new_starts s 0 ≡ get_or starts count 0 = start_at s (omega (arith, here)) ∙ ap (λ n. get_or starts n 0) here in
          let b0 : get_or new_starts (s + 1) 0 ≡ length new_ways = ap (λ n. get_or new_starts (n + 1) 0) here ∙ new_last in
          (omega (arith, a0, b0, o.last, more), omega (arith, b0))

      are_at : (s : ℕ) → s < count + 1 → (s < count) ⊎ (count ≤ s) → ways_of new_starts new_ways s ≡ ways_from net states (get_or leads s 0)
      are_at s h (inl less) =
          let a0 = start_at s (omega (arith, less)) in
          let b0 = start_at (s + 1) (omega (arith, less)) in
          let w = o.order s less in
          ap (λ n. slice_range new_ways n (get_or new_starts (s + 1) 0)) a0
          ∙ ap (λ n. slice_range new_ways (get_or starts s 0) n) b0
          ∙ ap (λ l. slice_range l (get_or starts s 0) (get_or starts (s + 1) 0)) grown
          ∙ range_stays ways (ways_from net states a) (get_or starts s 0) (get_or starts (s + 1) 0) (w.0) (w.1)
          ∙ o.are s less
      are_at s h (inr above) =
          let here : s ≡ count = omega (arith, h, above) in
          let a0 : get_or new_starts s 0 ≡ length ways = start_at s (omega (arith, here)) ∙ ap (λ n. get_or starts n 0) here ∙ o.last in
          let b0 : get_or new_starts (s + 1) 0 ≡ length new_ways = ap (λ n. get_or new_starts (n + 1) 0) here ∙ new_last in
          ap (λ n. slice_range new_ways n (get_or new_starts (s + 1) 0)) a0
          ∙ ap (λ n. slice_range new_ways (length ways) n) b0
          ∙ ap (λ l. slice_range l (length ways) (length l)) grown
          ∙ range_new ways (ways_from net states a)
          ∙ ap (λ x. ways_from net states x) (lead ∙ ap (λ n. get_or leads n 0) (sym here))

      zone_at_state : (s : ℕ) → s < count + 1 → (s < count) ⊎ (count ≤ s) → get_or new_zones s 0 ≡ end_zone net (get_or leads s 0)
      zone_at_state s h (inl less) = ap (λ l. get_or l s 0) zoned ∙ get_or_append_left zs (end_zone net a ∷ []) 0 s (omega (arith, less, o.zoned)) ∙ o.zone s less
      zone_at_state s h (inr above) =
          let here : s ≡ count = omega (arith, h, above) in
          let place : s ≡ length zs + 0 = omega (arith, here, o.zoned) in
          ap (λ l. get_or l s 0) zoned ∙ ap (λ n. get_or (zs ++ end_zone net a ∷ []) n 0) place ∙ get_or-append-add zs (end_zone net a ∷ []) 0 0
          ∙ ap (λ x. end_zone net x) (lead ∙ ap (λ n. get_or leads n 0) (sym here))

-- a penalty is that of a turn, and the other way
pub turned : (net : NetRows) (a b w : ℕ) → wait_between net a b ≡ Some w → (a < length net.links) × (b < length net.links) × (t : Turn) × (turn net a b ≡ Some t) × (t.penalty ≡ w)
unfolding wait_between
turned net a b w h = by (nat_lt a (length net.links)) (nat_lt b (length net.links)) (turn net a b) refl refl refl h
  where
    by : (p q : Bool) (o : Option Turn) → nat_lt a (length net.links) ≡ p → nat_lt b (length net.links) ≡ q → turn net a b ≡ o → cond (p && q) (wait_of o) None ≡ Some w → (a < length net.links) × (b < length net.links) × (t : Turn) × (turn net a b ≡ Some t) × (t.penalty ≡ w)
    by true true (Some t) x y z e = (search (rules, x), search (rules, y), t, z, same_number t.penalty w e)
      where
        same_number : (m n : ℕ) → Some m ≡ Some n → m ≡ n
        same_number m n q = cc
    by true true None x y z e = cc
    by true false o x y z e = cc
    by false q o x y z e = cc

pub waiting : (net : NetRows) (a b : ℕ) (t : Turn) → a < length net.links → b < length net.links → turn net a b ≡ Some t → wait_between net a b ≡ Some t.penalty
unfolding wait_between
waiting net a b t x y z =
    let p : nat_lt a (length net.links) ≡ true = grind (arith, nat_tests) in
    let q : nat_lt b (length net.links) ≡ true = grind (arith, nat_tests) in
    rw (p, q, z) refl

pub router_is : (net : NetRows) (leads : List ℕ) (r : Router) → IsNet net → AreStates net r.states.items leads → AreOnwards net r.states.items leads r.starts.items r.ways.items r.zones.items (length leads) → IsRouter net r
unfolding ends_to ends_in
router_is net leads r sound st o = record { many = st.many; few = (let n = o.zoned in omega (arith, n, st.few)); routes = λ zone at small. record { turns = are_turns zone at small; ordered = ordered } }
  where
    states : List ℕ
    states = r.states.items

    lead : ℕ → ℕ
    lead s = get_or leads s 0

    state_in : (l : ℕ) → l < length r.states.items → get_or r.states.items l 0 < length leads
    state_in l h = st.inside l 0 h

    ways_are : (s : ℕ) → s < length leads → onwards r s ≡ ways_from net r.states.items (get_or leads s 0)
    ways_are s h = o.are s h

    ordered : (s : ℕ) → s < length r.zones.items → AreOrdered (onwards r s)
    ordered s h =
        let a = get_or leads s 0 in
        subst (λ ws. AreOrdered ws) (sym (ways_are s (omega (arith, h, o.zoned))))
        (ways_rise net r.states.items a (as_links (outs net (link_at net a).to.0)) (λ i k x y less p q. outs_rise net (link_at net a).to.0 i k x.0 y.0 less (link_stands (outs net (link_at net a).to.0) i x p) (link_stands (outs net (link_at net a).to.0) k y q)))

    are_turns : (zone : ℕ) (at : ℕ → ℕ → ℕ) → zone < length (zones net.nodes) → AreTurns (ways_to at net zone) (length r.states.items) (is_own r zone) (state_of r) (onwards r) (length r.zones.items)
    are_turns zone at small = record {
      narrow = λ l h. (let s = state_in l h in omega (arith, s, o.zoned));
      ends = ends_there;
      listed = listed_there;
      allowed = allowed_there;
      end_within = end_in;
      turn_within = λ l b wait h. (let t = turned net l b wait h in (omega (arith, t.0, st.many), omega (arith, t.1, st.many)));
    }
      where
        end_in : (l : ℕ) → ends_to net zone l ≡ true → l < length r.states.items
        end_in l h = let p = and_parts (nat_lt l (length net.links)) _ h in let q : l < length net.links = search (rules, p.0) in omega (arith, q, st.many)

        ends_there : (l : ℕ) → l < length r.states.items → is_own r zone (get_or r.states.items l 0) ≡ ends_to net zone l
        ends_there l h =
            let s = get_or r.states.items l 0 in
            let at_state = o.zone s (state_in l h) in
            let node = st.ends l h in
            let p : nat_lt l (length net.links) ≡ true = is_below l (length net.links) (omega (arith, h, st.many)) in
            ap (λ z. nat_eq z zone) (at_state ∙ ap (λ n. zone_or_none (zone_of net n.0)) node)
            ∙ zone_same net (link_at net l).to.0 zone sound small
            ∙ and_true (nat_lt l (length net.links)) (is_zone (zone_named net zone) (zone_id net (link_at net l).to.0)) p

        listed_there : (l b wait : ℕ) → wait_between net l b ≡ Some wait → (k : ℕ) × (w : Onward) × (slice_get (onwards r (get_or r.states.items l 0)) k ≡ Some w) × (w.link ≡ b) × (w.wait ≡ wait) × (w.to ≡ get_or r.states.items b 0)
        listed_there l b wait h =
            let inside : l < length r.states.items = (let t = turned net l b wait h in omega (arith, t.0, st.many)) in
            let s = get_or r.states.items l 0 in
            let a = get_or leads s 0 in
            let t = turned net a b wait (st.turns l b inside ∙ h) in
            let way = t.2 in
            let out = is_out net (link_at net a).to.0 b (t.1) (meets net a b way (t.3)) in
            let listed = as_link_stands (outs net (link_at net a).to.0) (out.0) b (out.1) in
            let stands = is_way net r.states.items a (as_links (outs net (link_at net a).to.0)) (out.0) (record { 0 = b }) way listed (t.3) in (
              stands.0,
              record { wait = way.penalty; link = b; to = get_or r.states.items b 0 },
              ap (λ ws. slice_get ws (stands.0)) (ways_are s (state_in l inside)) ∙ stands.1,
              refl,
              t.4,
              refl,
            )

        allowed_there : (l k : ℕ) (w : Onward) → l < length r.states.items → slice_get (onwards r (get_or r.states.items l 0)) k ≡ Some w → (wait_between net l w.link ≡ Some w.wait) × (w.to ≡ get_or r.states.items w.link 0)
        allowed_there l k w h e =
            let s = get_or r.states.items l 0 in
            let a = get_or leads s 0 in
            let bs = as_links (outs net (link_at net a).to.0) in
            let i = way_is net r.states.items a bs k w (ap (λ ws. slice_get ws k) (sym (ways_are s (state_in l h))) ∙ e) in
            let b = i.1 in
            let t = i.2 in
            let out = out_is net (link_at net a).to.0 (i.0) b.0 (link_stands (outs net (link_at net a).to.0) (i.0) b (i.3)) in
            let leads_in = st.leading s 0 (state_in l h) in
            let waits : wait_between net l b.0 ≡ Some t.penalty = sym (st.turns l b.0 h) ∙ waiting net a b.0 t leads_in (out.0) (i.4) in
            subst (λ x. (wait_between net l x.link ≡ Some x.wait) × (x.to ≡ get_or r.states.items x.link 0)) (sym (i.5)) (waits, refl)

pub ruleset state_by_state = (AreOnwards_none, AreOnwards_more, router_is)
