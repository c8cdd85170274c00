-- Vehicles by their destinations, and what is told of them.
use Rattle.trip_costs.specs.Timings.{Timing}
use Rattle.trip_costs.specs.Costs.{CostTables, timing_of}
use Rattle.std.proofs.Common.{◌≡◌, ◌≢◌, ◌⊎◌, inl, inr, ℕ, zero, suc, ◌+◌, ◌-◌, ◌<◌, ◌≤◌, Bool, true, false, cond, List, [], ◌∷◌, ◌++◌, length, refl, ap, sym, ◌∙◌, subst, arith, rules, Option, Some, None, get_or, nat_eq, set, take, drop}
use Rattle.std.specs.Prelude.{◌||◌, All, filter, option_and_then, replicate, slice_get}
use Rattle.std.specs.List.{slice_range}
use Rattle.std.proofs.lemmas.List.{get_or-map, length-set, length-replicate}
use Rattle.std.proofs.lemmas.Option.{slice_get-get_or, slice_get_within, get_or_from_slice_get}
use Rattle.std.proofs.lemmas.Bool.{cases_lt}
use Rattle.std.proofs.lemmas.List.Elements.{All-push, All-weaker}
use Rattle.net_core.specs.AreListed.{AreListed}
use Rattle.net_core.specs.Network.{link_at, numbers_below, zone_id, zone_number, zones}
use Rattle.net_core.specs.declared.rows.LinkNo.{LinkNo}
use Rattle.net_core.specs.declared.rows.NetRows.{NetRows}
use Rattle.net_core.specs.declared.rows.NodeRow.{NodeRow}
use Rattle.net_core.specs.declared.rows.ZoneNo.{ZoneNo}
use Rattle.dta_model.specs.Least.{HaveNoWalk}
use Rattle.dta_model.specs.Walks.{begins_in, ends_in, is_zone}
use Rattle.dta_model.specs.declared.trip.Trip.{Trip}
use Rattle.time_routes.specs.Destinations.{asks_least, asks_walk, AreTold, IsAllTold, IsRight, LeastOf, UnaskedAreNone, WalkOf}
use Rattle.time_routes.specs.Tell.{LeadsTo, LeadsToFirst, noted, origins_of, Settles, Stands, StandsBefore, Tells, wanted, wanted_in, wanted_zone}
use Rattle.labels.specs.Named.{zone_named}
use Rattle.labels.specs.States.Onwards.{zone_or_none}
use Rattle.labels.specs.ToZone.{ToZones, zone_numbers}
use Rattle.labels.specs.declared.states.zone_numbers.TheConstants.{NO_ZONE}
use Rattle.time_routes.specs.declared.vehicles.Ask.{Ask}
use Rattle.time_routes.specs.declared.vehicles.Told.{Told}
use Rattle.net_core.proofs.ZonesFacts.{zone-absent}
use Rattle.labels.proofs.OfStates.OnwardFacts.{in_filter, of_filter, number_at, number_stands}
use Rattle.labels.proofs.OfStates.ZoneFacts.{named}
use Rattle.labels.proofs.Basics.{equal_of, same_true, some_same}

-- ---- zones that no node has
no_node : (net : NetRows) (n zone : ℕ) → All (λ node. node.zone ≢ Some zone) net.nodes → is_zone zone (zone_id net n) ≡ true → ⊥
no_node net n zone none h = by (slice_get net.nodes n) refl h
  where
    inner : (node : NodeRow) → slice_get net.nodes n ≡ Some node → (o : Option ℕ) → node.zone ≡ o → is_zone zone o ≡ true → ⊥
    inner node there None e t = cc
    inner node there (Some id) e t =
        let same : id ≡ zone = search (rules, t) in
        none n node (slice_get_within net.nodes n node there)
        (ap (λ x. x.zone) (get_or_from_slice_get net.nodes n node node there) ∙ e ∙ ap Some same)

    by : (o : Option NodeRow) → slice_get net.nodes n ≡ o → is_zone zone (option_and_then (λ node. node.zone) o) ≡ true → ⊥
    by None there t = cc
    by (Some node) there t = inner node there node.zone refl t

pub from_nowhere : (net : NetRows) (o d : ℕ) → All (λ node. node.zone ≢ Some o) net.nodes → HaveNoWalk net o d
unfolding begins_in
from_nowhere net o d none [] w = absurd (let s = w.some in omega (arith, s))
from_nowhere net o d none (l ∷ walk) w = no_node net (link_at net l).from.0 o none w.begins

last_of : (l : ℕ) (walk : List ℕ) → (i : ℕ) × (b : ℕ) × (slice_get (l ∷ walk) i ≡ Some b) × (suc i ≡ length (l ∷ walk))
last_of l [] = (zero, l, refl, refl)
last_of l (b ∷ walk) = let r = last_of b walk in (suc (r.0), r.1, r.2, ap suc (r.3))

pub to_nowhere : (net : NetRows) (o d : ℕ) → All (λ node. node.zone ≢ Some d) net.nodes → HaveNoWalk net o d
unfolding ends_in
to_nowhere net o d none [] w = absurd (let s = w.some in omega (arith, s))
to_nowhere net o d none (l ∷ walk) w =
    let r = last_of l walk in
    no_node net (link_at net (r.1)).to.0 d none (w.ends (r.0) (r.1) (r.2) ∙ same_true (suc (r.0)) (length (l ∷ walk)) (r.3))

-- ---- zones by numbers
pub apart_of : (net : NetRows) (o d a b : ℕ) → zone_number net o ≡ Some a → zone_number net d ≡ Some b → o ≢ d → a ≢ b
apart_of net o d a b ha hb other same =
    other (sym ((named net o a ha).0) ∙ ap (λ z. zone_named net z) same ∙ (named net d b hb).0)

-- what is told between two zones by numbers, between the zones of these names
pub told_between : (T : NetRows → ℕ → ℕ → Type 0) (mine net : NetRows) (o d a b : ℕ) → mine ≡ net → zone_number net o ≡ Some a → zone_number net d ≡ Some b
    → T mine (zone_named mine a) (zone_named mine b) → T net o d
told_between T mine net o d a b same ha hb told =
    subst (λ e. T net o e) ((named net d b hb).0) (subst (λ e. T net e (zone_named net b)) ((named net o a ha).0) (subst (λ n. T n (zone_named n a) (zone_named n b)) same told))

-- ---- the zones of a vehicle
pub begins_at : (net : NetRows) (trips : List Trip) (origins : List ℕ) (v n : ℕ) (d : Trip) → origins ≡ origins_of net trips → v < length trips → n ≡ get_or origins v n → n ≡ zone_or_none (zone_number net (get_or trips v d).origin)
begins_at net trips origins v n d are h is = is ∙ ap (λ l. get_or l v n) are ∙ get_or-map (λ trip. zone_or_none (zone_number net trip.origin)) trips v d n h

pub number_is : (o : Option ℕ) (n : ℕ) → n ≡ zone_or_none o → n ≢ NO_ZONE → o ≡ Some n
number_is None n is other = absurd (other is)
number_is (Some z) n is other = ap Some (sym is)

pub nowhere_of : (net : NetRows) (o d : ℕ) → length (zones net.nodes) ≤ NO_ZONE → NO_ZONE ≡ zone_or_none (zone_number net o) → HaveNoWalk net o d
nowhere_of net o d few h = from_nowhere net o d ((zone-absent net.nodes o).0 (by (zone_number net o) refl))
  where
    by : (x : Option ℕ) → zone_number net o ≡ x → x ≡ None
    by None e = refl
    by (Some z) e = let is : NO_ZONE ≡ z = h ∙ ap zone_or_none e in let small = (named net o z e).1 in absurd (omega (arith, is, small, few))

pub leads : (net : NetRows) (trips : List Trip) (asks : List Ask) (zone v : ℕ) (trip : Trip) → LeadsTo net trips asks zone v → slice_get trips v ≡ Some trip → zone_number net trip.destination ≡ Some zone
leads net trips asks zone v trip to there = by (slice_get asks v) (subst (λ t. wanted_in net t (slice_get asks v) ≡ zone) there to.to)
  where
    small : zone < NO_ZONE
    small = to.number

    asked : (b : Bool) → cond b (zone_or_none (zone_number net trip.destination)) NO_ZONE ≡ zone → zone_number net trip.destination ≡ Some zone
    asked true h = number_is (zone_number net trip.destination) zone (sym h) (λ e. omega (arith, small, e))
    asked false h = absurd (omega (arith, small, h))

    by : (o : Option Ask) → wanted_in net (Some trip) o ≡ zone → zone_number net trip.destination ≡ Some zone
    by None h = absurd (omega (arith, small, h))
    by (Some ask) h = asked (ask.least || ask.walk) h

-- ---- settling
set_elsewhere : {X : Type 0} (xs : List X) (v w : ℕ) (x : X) → w ≢ v → slice_get (set xs v x) w ≡ slice_get xs w
set_elsewhere [] v w x other = refl
set_elsewhere (z ∷ xs) zero zero x other = absurd (other refl)
set_elsewhere (z ∷ xs) zero (suc w) x other = refl
set_elsewhere (z ∷ xs) (suc v) zero x other = refl
set_elsewhere (z ∷ xs) (suc v) (suc w) x other = set_elsewhere xs v w x (λ e. other (ap suc e))

not_both : (asked : ℕ → Bool) (v w : ℕ) → asked v ≡ true → asked w ≡ false → w ≢ v
not_both asked v w yes_v no_w same = let e = ap asked same in cc

module _ {X : Type 0} (asked : ℕ → Bool) (Right : ℕ → X → Type 0) where
  pub settles_same : (v : ℕ) (xs : List X) → ((x : X) → Right v x) → Settles asked Right (λ w. w ≡ v) xs xs
  settles_same v xs all = record {
    unasked = λ v other. refl;
    as_many = refl;
    kept = λ w x y a r b. (let same : x ≡ y = some_same x y (sym a ∙ b) in subst (λ z. Right w z) same r);
    made = λ w y n b. subst (λ u. Right u y) (sym n) (all y);
  }

  at_place : (xs : List X) (v w : ℕ) (x y : X) → slice_get (set xs v x) w ≡ Some y → ((w ≡ v) × (y ≡ x)) ⊎ (slice_get xs w ≡ Some y)
  at_place [] v w x y h = cc
  at_place (z ∷ xs) zero zero x y h = inl (refl, some_same y x (sym h))
  at_place (z ∷ xs) zero (suc w) x y h = inr h
  at_place (z ∷ xs) (suc v) zero x y h = inr h
  at_place (z ∷ xs) (suc v) (suc w) x y h = by (at_place xs v w x y h)
    where
      by : ((w ≡ v) × (y ≡ x)) ⊎ (slice_get xs w ≡ Some y) → ((suc w ≡ suc v) × (y ≡ x)) ⊎ (slice_get xs w ≡ Some y)
      by (inl e) = inl (ap suc e.0, e.1)
      by (inr e) = inr e

  here : (xs : List X) (v : ℕ) (x y : X) → slice_get (set xs v x) v ≡ Some y → y ≡ x
  here [] v x y h = cc
  here (z ∷ xs) zero x y h = some_same y x (sym h)
  here (z ∷ xs) (suc v) x y h = here xs v x y h

  pub settles_set : (v : ℕ) (xs : List X) (x : X) → asked v ≡ true → Right v x → Settles asked Right (λ w. w ≡ v) xs (set xs v x)
  settles_set v xs x this right = record {
    unasked = λ w other. set_elsewhere xs v w x (not_both asked v w this other);
    as_many = length-set xs v x;
    kept = λ w a b h r k. by w a b h r (at_place xs v w x b k);
    made = λ w y n k. (let k1 : slice_get (set xs v x) v ≡ Some y = subst (λ u. slice_get (set xs v x) u ≡ Some y) n k in subst (λ u. Right u y) (sym n) (subst (λ z. Right v z) (sym (here xs v x y k1)) right));
  }
    where
      by : (w : ℕ) (a b : X) → slice_get xs w ≡ Some a → Right w a → ((w ≡ v) × (b ≡ x)) ⊎ (slice_get xs w ≡ Some b) → Right w b
      by w a b h r (inl e) = subst (λ u. Right u b) (sym e.0) (subst (λ z. Right v z) (sym e.1) right)
      by w a b h r (inr e) = subst (λ z. Right w z) (some_same a b (sym h ∙ e)) r

  pub settles_then : (First Second Both : ℕ → Type 0) (old mid new : List X) → Settles asked Right First old mid → Settles asked Right Second mid new → ((v : ℕ) → Both v → First v ⊎ Second v) → Settles asked Right Both old new
  settles_then First Second Both old mid new one two split = record {
    as_many = two.as_many ∙ one.as_many;
    unasked = λ v other. two.unasked v other ∙ one.unasked v other;
    kept = λ v x y a r b. (let m = between v y b in two.kept v (m.0) y (m.1) (one.kept v x (m.0) a r (m.1)) b);
    made = λ v y n b. by v y b (split v n);
  }
    where
      between : (v : ℕ) (y : X) → slice_get new v ≡ Some y → (m : X) × (slice_get mid v ≡ Some m)
      between v y b = let w = slice_get_within new v y b in let long = two.as_many in (get_or mid v y, slice_get-get_or mid v y (omega (arith, w, long)))

      by : (v : ℕ) (y : X) → slice_get new v ≡ Some y → First v ⊎ Second v → Right v y
      by v y b (inl f) = let m = between v y b in two.kept v (m.0) y (m.1) (one.made v (m.0) f (m.1)) b
      by v y b (inr s) = two.made v y s b

-- ---- one vehicle
pub right_of : {X : Type 0} (T : Trip → X → Type 0) (asks : ℕ → Bool) (trips : List Trip) (v : ℕ) (trip : Trip) (x : X) → slice_get trips v ≡ Some trip → T trip x → IsRight T asks trips v x
right_of T asks trips v trip x there told other asked h = subst (λ t. T t x) (some_same trip other (sym there ∙ h)) told

-- what is told between two zones, of a vehicle that goes from one to the other
pub right_between : {X : Type 0} (T : Timing → NetRows → ℕ → ℕ → ℕ → X → Type 0) (asked : ℕ → Bool) (is : Bool) (group : ToZones) (net : NetRows) (costs : CostTables) (trips : List Trip) (v from to : ℕ) (trip : Trip) (x : X)
    → asked v ≡ is → group.net ≡ net → group.costs ≡ costs → slice_get trips v ≡ Some trip → zone_number net trip.origin ≡ Some from → zone_number net trip.destination ≡ Some to
    → (is ≡ true → T (timing_of group.costs) group.net (zone_named group.net from) (zone_named group.net to) trip.departure x)
    → IsRight (λ t y. T (timing_of costs) net t.origin t.destination t.departure y) asked trips v x
right_between T asked is group net costs trips v from to trip x asks same_net same_costs there begins ends told other a h =
    subst (λ t. T (timing_of costs) net t.origin t.destination t.departure x) (some_same trip other (sym there ∙ h))
    (subst (λ t. T (timing_of t) net trip.origin trip.destination trip.departure x) same_costs
    (told_between (λ m o d. T (timing_of group.costs) m o d trip.departure x) group.net net trip.origin trip.destination from to same_net begins ends (told (sym asks ∙ a))))

-- ---- some vehicles after others
module _ (costs : Timing) (net : NetRows) (trips : List Trip) (asks : List Ask) where
  abbrev Leasts : (ℕ → Type 0) → List (Option ℕ) → List (Option ℕ) → Type 0
  Leasts = Settles (asks_least asks) (IsRight (LeastOf costs net) (asks_least asks) trips)

  abbrev Walks : (ℕ → Type 0) → List (Option (List LinkNo)) → List (Option (List LinkNo)) → Type 0
  Walks = Settles (asks_walk asks) (IsRight (WalkOf costs net) (asks_walk asks) trips)

  pub tells_then : (First Second Both : ℕ → Type 0) (old mid new : Told) → Tells costs net trips asks First old mid → Leasts Second mid.leasts.items new.leasts.items → Walks Second mid.walks.items new.walks.items → ((v : ℕ) → Both v → First v ⊎ Second v) → Tells costs net trips asks Both old new
  tells_then First Second Both old mid new one leasts walks split = record {
    leasts = settles_then (asks_least asks) (IsRight (LeastOf costs net) (asks_least asks) trips) First Second Both old.leasts.items mid.leasts.items new.leasts.items one.leasts leasts split;
    walks = settles_then (asks_walk asks) (IsRight (WalkOf costs net) (asks_walk asks) trips) First Second Both old.walks.items mid.walks.items new.walks.items one.walks walks split;
  }

  fewer : {X : Type 0} (asked : ℕ → Bool) (Right : ℕ → X → Type 0) (Many Few : ℕ → Type 0) (old new : List X) → Settles asked Right Many old new → ((v : ℕ) → Few v → Many v) → Settles asked Right Few old new
  fewer asked Right Many Few old new s h = record { as_many = s.as_many; unasked = s.unasked; kept = s.kept; made = λ v y n b. s.made v y (h v n) b }

  pub tells_fewer : (Many Few : ℕ → Type 0) (old new : Told) → Tells costs net trips asks Many old new → ((v : ℕ) → Few v → Many v) → Tells costs net trips asks Few old new
  tells_fewer Many Few old new t h = record {
    leasts = fewer (asks_least asks) (IsRight (LeastOf costs net) (asks_least asks) trips) Many Few old.leasts.items new.leasts.items t.leasts h;
    walks = fewer (asks_walk asks) (IsRight (WalkOf costs net) (asks_walk asks) trips) Many Few old.walks.items new.walks.items t.walks h;
  }

pub before_more : (numbers : List ℕ) (i d v : ℕ) → StandsBefore numbers (i + 1) v → StandsBefore numbers i v ⊎ (v ≡ get_or numbers i d)
before_more numbers i d v s = by (cases_lt (s.0) i)
  where
    by : (s.0 < i) ⊎ (i ≤ s.0) → StandsBefore numbers i v ⊎ (v ≡ get_or numbers i d)
    by (inl b) = inl (s.0, b, s.2)
    by (inr b) = let low = s.1 in let same : s.0 ≡ i = omega (arith, low, b) in inr (sym (get_or_from_slice_get numbers i v d (ap (λ k. slice_get numbers k) (sym same) ∙ s.2)))

pub all_before : (numbers : List ℕ) (i v : ℕ) → length numbers ≤ i → Stands numbers v → StandsBefore numbers i v
all_before numbers i v h s = let inside = slice_get_within numbers (s.0) v (s.1) in (s.0, omega (arith, inside, h), s.1)

-- ---- the lists of vehicles
pub wanted_at : (net : NetRows) (trips : List Trip) (asks : List Ask) (v : ℕ) (trip : Trip) (ask : Ask) → slice_get trips v ≡ Some trip → slice_get asks v ≡ Some ask → wanted_zone net trips asks v ≡ wanted net trip ask
wanted_at net trips asks v trip ask t a = ap (λ o. wanted_in net o (slice_get asks v)) t ∙ ap (λ o. wanted_in net (Some trip) o) a

-- ---- the zones to which vehicles go
pub found_below : (found : List ZoneNo) (zone : ℕ) (vehicles : List ℕ) → All (λ z. z.0 < zone) found → All (λ z. z.0 < zone + 1) (noted found (record { 0 = zone }) vehicles)
found_below found zone [] all = All-weaker (λ z. z.0 < zone) (λ z. z.0 < zone + 1) (λ z h. omega (arith, h)) found all
found_below found zone (v ∷ vehicles) all =
    All-push (λ z. z.0 < zone + 1) found (record { 0 = zone }) (All-weaker (λ z. z.0 < zone) (λ z. z.0 < zone + 1) (λ z h. omega (arith, h)) found all) (omega arith)

stands_before : (found : List ZoneNo) (zone : ZoneNo) (z : ℕ) → Stands (zone_numbers found) z → Stands (zone_numbers (found ++ zone ∷ [])) z
stands_before [] zone z s = cc
stands_before (f ∷ found) zone z s = by (s.0) s.1 (λ k e. stands_before found zone z (k, e))
  where
    by : (k : ℕ) → slice_get (zone_numbers (f ∷ found)) k ≡ Some z → ((k : ℕ) → slice_get (zone_numbers found) k ≡ Some z → Stands (zone_numbers (found ++ zone ∷ [])) z) → Stands (zone_numbers (f ∷ (found ++ zone ∷ []))) z
    by zero e later = (zero, e)
    by (suc k) e later = let r = later k e in (suc (r.0), r.1)

stands_last : (found : List ZoneNo) (zone : ZoneNo) → Stands (zone_numbers (found ++ zone ∷ [])) zone.0
stands_last [] zone = (zero, refl)
stands_last (f ∷ found) zone = let r = stands_last found zone in (suc (r.0), r.1)

stands_noted : (found : List ZoneNo) (zone : ZoneNo) (vehicles : List ℕ) (z : ℕ) → Stands (zone_numbers found) z → Stands (zone_numbers (noted found zone vehicles)) z
stands_noted found zone [] z s = s
stands_noted found zone (v ∷ vehicles) z s = stands_before found zone z s

last_noted : (found : List ZoneNo) (zone : ZoneNo) (vehicles : List ℕ) → vehicles ≢ [] → Stands (zone_numbers (noted found zone vehicles)) zone.0
last_noted found zone [] h = absurd (h refl)
last_noted found zone (v ∷ vehicles) h = stands_last found zone

pub found_each : (lists : List (List ℕ)) (found : List ZoneNo) (zone : ℕ) → ((z : ℕ) → z < zone → get_or lists z [] ≢ [] → Stands (zone_numbers found) z)
    → (z : ℕ) → z < zone + 1 → get_or lists z [] ≢ [] → Stands (zone_numbers (noted found (record { 0 = zone }) (get_or lists zone []))) z
found_each lists found zone each z h some = by (cases_lt z zone)
  where
    by : (z < zone) ⊎ (zone ≤ z) → Stands (zone_numbers (noted found (record { 0 = zone }) (get_or lists zone []))) z
    by (inl b) = stands_noted found (record { 0 = zone }) (get_or lists zone []) z (each z b some)
    by (inr b) =
        let same : z ≡ zone = omega (arith, h, b) in
        let there : get_or lists zone [] ≢ [] = subst (λ n. get_or lists n [] ≢ []) same some in
        subst (λ n. Stands (zone_numbers (noted found (record { 0 = zone }) (get_or lists zone []))) n) (sym same) (last_noted found (record { 0 = zone }) (get_or lists zone []) there)

-- ---- the vehicles of a zone
module _ (net : NetRows) (trips : List Trip) (asks : List Ask) (lists : List (List ℕ)) (g : AreListed lists (length (zones net.nodes)) (wanted_zone net trips asks) (numbers_below (length trips))) (few : length (zones net.nodes) ≤ NO_ZONE) where
  abbrev goes : ℕ → ℕ → Bool
  goes z v = nat_eq (wanted_zone net trips asks v) z

  pub vehicles_lead : (z : ℕ) → z < length (zones net.nodes) → All (LeadsTo net trips asks z) (get_or lists z [])
  vehicles_lead z small = subst (λ l. All (LeadsTo net trips asks z) l) (sym (g.listed z small)) (λ k d h. one k d h)
    where
      one : (k d : ℕ) → k < length (filter (goes z) (numbers_below (length trips))) → LeadsTo net trips asks z (get_or (filter (goes z) (numbers_below (length trips))) k d)
      one k d h =
          let v : ℕ = get_or (filter (goes z) (numbers_below (length trips))) k d in
          let f = in_filter (goes z) (numbers_below (length trips)) k v (slice_get-get_or (filter (goes z) (numbers_below (length trips))) k d h) in
          let x = number_at (length trips) (f.0) v (f.1) in
          record { within = omega (arith, x.0, x.1); to = equal_of (wanted_zone net trips asks v) z (f.2); number = omega (arith, small, few) }

  pub leading_stand : (z v : ℕ) → z < length (zones net.nodes) → LeadsTo net trips asks z v → Stands (get_or lists z []) v
  leading_stand z v small to =
      let r = of_filter (goes z) (numbers_below (length trips)) v v (number_stands (length trips) v to.within) (same_true (wanted_zone net trips asks v) z to.to) in
      (r.0, ap (λ xs. slice_get xs (r.0)) (g.listed z small) ∙ r.1)

  pub first_more : (named : List ZoneNo) (place : ℕ) (d : ZoneNo) (vehicles : List ℕ) → All (λ zone. zone.0 < length (zones net.nodes)) named → get_or lists (get_or named place d).0 [] ≡ vehicles
      → (v : ℕ) → LeadsToFirst net trips asks named (place + 1) v → LeadsToFirst net trips asks named place v ⊎ Stands vehicles v
  first_more named place d vehicles small are v s = by (cases_lt (s.0) place)
    where
      by : (s.0 < place) ⊎ (place ≤ s.0) → LeadsToFirst net trips asks named place v ⊎ Stands vehicles v
      by (inl b) = inl (s.0, s.1, b, s.3, s.4)
      by (inr b) =
          let low = s.2 in
          let same : s.0 ≡ place = omega (arith, low, b) in
          let there : get_or named (s.0) d ≡ s.1 = get_or_from_slice_get named (s.0) (s.1) d (s.3) in
          let inside : (get_or named (s.0) d).0 < length (zones net.nodes) = small (s.0) d (slice_get_within named (s.0) (s.1) (s.3)) in
          let to : LeadsTo net trips asks (get_or named (s.0) d).0 v = subst (λ z. LeadsTo net trips asks z.0 v) (sym there) (s.4) in
          inr (subst (λ l. Stands l v) are (subst (λ p. Stands (get_or lists (get_or named p d).0 []) v) same (leading_stand (get_or named (s.0) d).0 v inside to)))

-- ---- one group after others
take_get : {X : Type 0} (xs : List X) (n k : ℕ) → k < n → slice_get (take n xs) k ≡ slice_get xs k
take_get [] zero k h = absurd (omega (arith, h))
take_get [] (suc n) k h = refl
take_get (x ∷ xs) zero k h = absurd (omega (arith, h))
take_get (x ∷ xs) (suc n) zero h = refl
take_get (x ∷ xs) (suc n) (suc k) h = take_get xs n k (omega (arith, h))

drop_get : {X : Type 0} (xs : List X) (a k j : ℕ) → j ≡ a + k → slice_get (drop a xs) k ≡ slice_get xs j
drop_get xs zero k j e = let same : k ≡ j = omega (arith, e) in ap (λ i. slice_get xs i) same
drop_get [] (suc a) k j e = refl
drop_get (x ∷ xs) (suc a) k zero e = absurd (omega (arith, e))
drop_get (x ∷ xs) (suc a) k (suc j) e = drop_get xs a k j (omega (arith, e))

range_get : {X : Type 0} (xs : List X) (a b j : ℕ) → a ≤ j → j < b → slice_get (slice_range xs a b) (j - a) ≡ slice_get xs j
range_get xs a b j low high = take_get (drop a xs) (b - a) (j - a) (omega (arith, low, high)) ∙ drop_get xs a (j - a) j (omega (arith, low))

pub group_more : (net : NetRows) (trips : List Trip) (asks : List Ask) (named : List ZoneNo) (first next : ℕ) (v : ℕ) → LeadsToFirst net trips asks named next v
    → LeadsToFirst net trips asks named first v ⊎ LeadsToFirst net trips asks (slice_range named first next) (length (slice_range named first next)) v
group_more net trips asks named first next v s = by (cases_lt (s.0) first)
  where
    by : (s.0 < first) ⊎ (first ≤ s.0) → LeadsToFirst net trips asks named first v ⊎ LeadsToFirst net trips asks (slice_range named first next) (length (slice_range named first next)) v
    by (inl b) = inl (s.0, s.1, b, s.3, s.4)
    by (inr b) =
        let there : slice_get (slice_range named first next) (s.0 - first) ≡ Some (s.1) = range_get named first next (s.0) b (s.2) ∙ s.3 in
        inr (s.0 - first, s.1, slice_get_within (slice_range named first next) (s.0 - first) (s.1) there, there, s.4)

-- ---- all vehicles
abbrev AsksSome : List Ask → ℕ → Type 0
AsksSome asks v = (ask : Ask) × (slice_get asks v ≡ Some ask) × ((ask.least || ask.walk) ≡ true)

or_left : (a b : Bool) → a ≡ true → (a || b) ≡ true
or_left true b h = refl
or_left false b h = cc

or_right : (a b : Bool) → b ≡ true → (a || b) ≡ true
or_right true b h = refl
or_right false b h = h

pub asks_some_least : (asks : List Ask) (v : ℕ) → asks_least asks v ≡ true → AsksSome asks v
asks_some_least [] v h = cc
asks_some_least (ask ∷ asks) zero h = (ask, refl, or_left ask.least ask.walk h)
asks_some_least (ask ∷ asks) (suc v) h = asks_some_least asks v h

pub asks_some_walk : (asks : List Ask) (v : ℕ) → asks_walk asks v ≡ true → AsksSome asks v
asks_some_walk [] v h = cc
asks_some_walk (ask ∷ asks) zero h = (ask, refl, or_right ask.least ask.walk h)
asks_some_walk (ask ∷ asks) (suc v) h = asks_some_walk asks v h

stands_zone : (found : List ZoneNo) (k z : ℕ) → slice_get (zone_numbers found) k ≡ Some z → (zone : ZoneNo) × (slice_get found k ≡ Some zone) × (zone.0 ≡ z)
stands_zone [] k z h = cc
stands_zone (f ∷ found) zero z h = (f, refl, some_same f.0 z h)
stands_zone (f ∷ found) (suc k) z h = stands_zone found k z h

not_empty : (xs : List ℕ) (v : ℕ) → Stands xs v → xs ≢ []
not_empty [] v s h = let e = s.1 in cc
not_empty (x ∷ xs) v s h = cc

one_of : {X : Type 0} (x : X) (n v : ℕ) → v < n → slice_get (replicate n x) v ≡ Some x
one_of x zero v h = absurd (omega (arith, h))
one_of x (suc n) zero h = refl
one_of x (suc n) (suc v) h = one_of x n v (omega (arith, h))

module _ (net : NetRows) (trips : List Trip) (asks : List Ask) (lists : List (List ℕ)) (g : AreListed lists (length (zones net.nodes)) (wanted_zone net trips asks) (numbers_below (length trips))) (few : length (zones net.nodes) ≤ NO_ZONE)
    (found : List ZoneNo) (each : (z : ℕ) → z < length (zones net.nodes) → get_or lists z [] ≢ [] → Stands (zone_numbers found) z) where
  leads_there : (v z : ℕ) (trip : Trip) → AsksSome asks v → slice_get trips v ≡ Some trip → zone_number net trip.destination ≡ Some z → LeadsToFirst net trips asks found (length found) v
  leads_there v z trip a there to =
      let small = (named net trip.destination z to).1 in
      let is : wanted_zone net trips asks v ≡ z =
      wanted_at net trips asks v trip (a.0) there (a.1) ∙ ap (λ b. cond b (zone_or_none (zone_number net trip.destination)) NO_ZONE) (a.2) ∙ ap zone_or_none to in
      let leading : LeadsTo net trips asks z v = record { within = slice_get_within trips v trip there; to = is; number = omega (arith, small, few) } in
      let s = each z small (not_empty (get_or lists z []) v (leading_stand net trips asks lists g few z v small leading)) in
      let f = stands_zone found (s.0) z (s.1) in
      (s.0, f.0, slice_get_within found (s.0) (f.0) (f.1), f.1, subst (λ n. LeadsTo net trips asks n v) (sym (f.2)) leading)

  pub all_told : {X : Type 0} (T : Trip → Option X → Type 0) (asked : ℕ → Bool) (start new : List (Option X)) → ((trip : Trip) → HaveNoWalk net trip.origin trip.destination → T trip None)
      → ((v : ℕ) → asked v ≡ true → AsksSome asks v) → start ≡ replicate (length trips) None
      → Settles asked (IsRight T asked trips) (LeadsToFirst net trips asks found (length found)) start new → AreTold T asked trips new
  all_told {X = X} T asked start new nothing some is s = record {
    as_many = s.as_many ∙ ap length is ∙ length-replicate (length trips) None;
    each = λ v x h trip a there. by v x h trip a there (zone_number net trip.destination) refl;
  }
    where
      by : (v : ℕ) (x : Option X) → slice_get new v ≡ Some x → (trip : Trip) → asked v ≡ true → slice_get trips v ≡ Some trip → (o : Option ℕ) → zone_number net trip.destination ≡ o → T trip x
      by v x h trip a there None to =
          let none : T trip None = nothing trip (to_nowhere net trip.origin trip.destination ((zone-absent net.nodes trip.destination).0 to)) in
          let begin : slice_get start v ≡ Some None = ap (λ l. slice_get l v) is ∙ one_of None (length trips) v (slice_get_within trips v trip there) in
          s.kept v None x begin (right_of T asked trips v trip None there none) h trip a there
      by v x h trip a there (Some z) to = s.made v x (leads_there v z trip (some v a) there to) h trip a there

pub unasked_none : {X : Type 0} (asked : ℕ → Bool) (Right : ℕ → Option X → Type 0) (Now : ℕ → Type 0) (count : ℕ) (start new : List (Option X)) → start ≡ replicate count None → Settles asked Right Now start new → UnaskedAreNone asked new
unasked_none asked Right Now count start new is s v x other there =
    let long : length new ≡ count = s.as_many ∙ ap length is ∙ length-replicate count None in
    let small = slice_get_within new v x there in
    some_same x None (sym there ∙ s.unasked v other ∙ ap (λ l. slice_get l v) is ∙ one_of None count v (omega (arith, small, long)))

-- all is told where nothing was told before, and all zones to which vehicles go were searched
pub told_of_all : (costs : Timing) (net : NetRows) (trips : List Trip) (asks : List Ask) (lists : List (List ℕ)) (found : List ZoneNo) (none told : Told)
    → AreListed lists (length (zones net.nodes)) (wanted_zone net trips asks) (numbers_below (length trips)) → length (zones net.nodes) ≤ NO_ZONE
    → ((z : ℕ) → z < length (zones net.nodes) → get_or lists z [] ≢ [] → Stands (zone_numbers found) z)
    → none.leasts.items ≡ replicate (length trips) None → none.walks.items ≡ replicate (length trips) None
    → Tells costs net trips asks (LeadsToFirst net trips asks found (length found)) none told → IsAllTold costs net trips asks told
told_of_all costs net trips asks lists found none told grouped few each leasts walks tells =
    let Now = LeadsToFirst net trips asks found (length found) in record {
      leasts = all_told net trips asks lists grouped few found each (LeastOf costs net) (asks_least asks) none.leasts.items told.leasts.items (λ trip h. h) (asks_some_least asks) leasts tells.leasts;
      walks = all_told net trips asks lists grouped few found each (WalkOf costs net) (asks_walk asks) none.walks.items told.walks.items (λ trip h. h) (asks_some_walk asks) walks tells.walks;
      unasked_leasts = unasked_none (asks_least asks) (IsRight (LeastOf costs net) (asks_least asks) trips) Now (length trips) none.leasts.items told.leasts.items leasts tells.leasts;
      unasked_walks = unasked_none (asks_walk asks) (IsRight (WalkOf costs net) (asks_walk asks) trips) Now (length trips) none.walks.items told.walks.items walks tells.walks;
    }
