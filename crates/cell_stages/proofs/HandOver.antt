-- All nodes together hold the vehicles of a plan.
use Rattle.net_core.specs.Network as network
use Rattle.net_core.specs.Network.{numbers_below}
use Rattle.net_core.specs.declared.rows.LinkNo.{LinkNo}
use Rattle.std.specs.List.{flat_map}
use Rattle.std.specs.Prelude.{All, filter, is_some, nat_eq, slice_get}
use Rattle.std.proofs.Common.{◌≡◌, ℕ, ◌<◌, ◌≤◌, Bool, true, false, cond, not, List, [], ◌∷◌, ◌++◌, length, refl, ap, sym, ◌∙◌, subst, arith, Option, Some, None, ◌⊎◌, inl, inr}
use Rattle.std.proofs.lemmas.Bool.{eq-eqb, ne_eqb, and_parts, cases_Bool}
use Rattle.std.proofs.lemmas.List.Elements.{All-cons, All-nil, All-weaker, filter-append}
use Rattle.std.proofs.lemmas.Option.{slice_get-get_or, slice_get_within}
use Rattle.dta_model.specs.declared.plan.Plan.{Plan}
use Rattle.cell_stages.specs.HandOver.{NodesHoldAll, all_riders, riders_at}
use Rattle.dta_model.specs.Loading.{is_onto, trace_after}
use Rattle.dta_model.specs.NodeMoves.{is_first}
use Rattle.dta_model.specs.Plans.{all_nodes, link_numbers, route_in, first_link, ins, link_at, outs, route_of, vehicle_count, vehicles_of}
use Rattle.dta_model.specs.Riders.{RiderState, rider_at, riders}
use Rattle.dta_model.specs.Sound.{IsSound}
use Rattle.cell_stages.specs.Stages.{arrived_before, line_before, waiting_before}
use Rattle.dta_model.specs.State.{is_due, is_routed, some_route, leads_out}
use Rattle.dta_model.specs.Trace.{Arrived, Move, Onto, Target, has_moved, last_move}
use Rattle.cell_stages.proofs.Arrived.{arrived_of, arrived_total}
use Rattle.dta_model.proofs.Fuel.{last_in, trace-lawful}
use Rattle.dta_model.proofs.Flat.{filter-flat, flat_one}
use Rattle.cell_stages.proofs.Spread.{flat-filter, flat_same, only_first, only_second, only_third, spread}
use Rattle.dta_model.proofs.Standing.{no-last}
use Rattle.dta_model.proofs.Steady.{some_trip, steady_of}
use Rattle.cell_stages.proofs.Whereabouts.{line_one, link_by, link_of, waiting_one, waits_at}
use Rattle.cell_stages.proofs.ByNumber.{all_numbered, few_numbered}
use Rattle.dta_model.proofs.Conserved.{mover_due}
use Rattle.dta_model.proofs.Totals.{InTable, place_in, trace-in}

-- what one vehicle has on the lines of a node, by the link where it is
at_node : (ends : ℕ → ℕ) (links n : ℕ) (mine : RiderState → Bool) (line : ℕ → List RiderState) (o : Option ℕ) (R : List RiderState) → ((l : ℕ) → filter mine (line l) ≡ cond (is_first l o) R [])
    → filter mine (flat_map line (filter (λ l. nat_eq (ends l) n) (numbers_below links))) ≡ flat_map (λ l. cond (nat_eq (ends l) n) (cond (is_first l o) R []) []) (numbers_below links)
at_node ends links n mine line o R each =
    filter-flat mine line (filter (λ l. nat_eq (ends l) n) (numbers_below links))
    ∙ flat-filter (λ l. nat_eq (ends l) n) (λ l. filter mine (line l)) (numbers_below links)
    ∙ flat_same (λ l. cond (nat_eq (ends l) n) (filter mine (line l)) []) (λ l. cond (nat_eq (ends l) n) (cond (is_first l o) R []) []) (numbers_below links) (λ l. ap (λ L. cond (nat_eq (ends l) n) L []) (each l))

filter-singles : (f : ℕ → Bool) (xs : List ℕ) → filter f xs ≡ flat_map (λ x. cond (f x) (x ∷ []) []) xs
filter-singles f [] = refl
filter-singles f (x ∷ xs) = single_step (f x) (filter-singles f xs)
  where
    single_step : (b : Bool) → filter f xs ≡ flat_map (λ y. cond (f y) (y ∷ []) []) xs → cond b (x ∷ filter f xs) (filter f xs) ≡ cond b (x ∷ []) [] ++ flat_map (λ y. cond (f y) (y ∷ []) []) xs
    single_step true ih = ap (λ L. x ∷ L) ih
    single_step false ih = ih

-- two tests in either order
filter_swap : (f g : RiderState → Bool) (xs : List RiderState) → filter f (filter g xs) ≡ filter g (filter f xs)
filter_swap f g [] = refl
filter_swap f g (x ∷ xs) = swap_step (f x) (g x) refl refl (filter_swap f g xs)
  where
    swap_step : (a b : Bool) → f x ≡ a → g x ≡ b → filter f (filter g xs) ≡ filter g (filter f xs) → filter f (cond b (x ∷ filter g xs) (filter g xs)) ≡ filter g (cond a (x ∷ filter f xs) (filter f xs))
    swap_step true true r s ih = rw (r, s) (ap (λ L. x ∷ L) ih)
    swap_step true false r s ih = rw s ih
    swap_step false true r s ih = rw r ih
    swap_step false false r s ih = ih

filter_some : (f : RiderState → Bool) (b : Bool) (xs : List RiderState) → filter f (cond b xs []) ≡ cond b (filter f xs) []
filter_some f true xs = refl
filter_some f false xs = refl

module _ (p : Plan) (sound : IsSound p) (t v : ℕ) where
  abbrev mine : RiderState → Bool
  mine r = nat_eq r.number v

  abbrev T : List Move
  T = trace_after p t

  abbrev running : ℕ → List RiderState
  running n = filter mine (flat_map (line_before p t) (ins p n))

  abbrev waiting : ℕ → List RiderState
  waiting n = filter mine (flat_map (waiting_before p t) (outs p n))

  abbrev R : List RiderState
  R = rider_at p T v ∷ []

  running_total : ((l : ℕ) → link_of (last_move v T) ≡ Some l → l < length p.net.links) → flat_map running (all_nodes p) ≡ cond (is_some (link_of (last_move v T))) R []
  unfolding network.ins
  running_total inside =
      flat_same running (λ n. flat_map (λ l. cond (nat_eq (link_at p l).to.0 n) (cond (is_first l (link_of (last_move v T))) R []) []) (numbers_below (length p.net.links))) (all_nodes p)
      (λ n. at_node (λ l. (link_at p l).to.0) (length p.net.links) n mine (line_before p t) (link_of (last_move v T)) R (λ l. line_one p t l v))
      ∙ spread (λ l. (link_at p l).to.0) (length p.net.links) (length p.net.nodes) R (link_of (last_move v T)) (λ l e. (inside l e, ((steady_of p sound).ends l (inside l e)).1))

  some_link : (a b : ℕ) → Some a ≡ Some b → a ≡ b
  some_link a b e = cc

  -- a vehicle that is on a link is on one of the table
  on_inside : (l : ℕ) → link_of (last_move v T) ≡ Some l → l < length p.net.links
  on_inside l e = inside_step (cases_Bool (has_moved v T))
    where
      by_target : (m : Move) (y : Target) → m.target ≡ y → InTable (length p.net.links) m → link_by y ≡ Some l → l < length p.net.links
      by_target m (Onto b) s inside h = subst (λ j. j < length p.net.links) (some_link b l h) (inside b s)
      by_target m Arrived s inside h = cc

      inside_step : (has_moved v T ≡ true) ⊎ (has_moved v T ≡ false) → l < length p.net.links
      inside_step (inl moved) =
          let x = last_in (InTable (length p.net.links)) v T [] (trace-in p (steady_of p sound) t) moved in
          by_target x.0 (x.0).target refl x.2 (sym (ap link_of x.1) ∙ e)
      inside_step (inr none) = let clash : None ≡ Some l = sym (ap link_of (no-last v T none)) ∙ e in cc clash

  -- what a vehicle has on all in-links
  pub running_one : filter mine (flat_map (λ n. flat_map (line_before p t) (ins p n)) (all_nodes p)) ≡ cond (is_some (link_of (last_move v T))) R []
  running_one = filter-flat mine (λ n. flat_map (line_before p t) (ins p n)) (all_nodes p) ∙ running_total on_inside

  abbrev W : List RiderState
  W = riders p T (filter (λ w. nat_eq w v) (vehicles_of p))

  first_inside : (b : ℕ) → first_link p v ≡ Some b → b < length p.net.links
  unfolding first_link
  first_inside b e = place_in (λ l. l < length p.net.links) (route_of p v) 0 b ((steady_of p sound).routes v) e

  waits_inside : (moved : Bool) (b : ℕ) → waits_at moved (first_link p v) ≡ Some b → b < length p.net.links
  waits_inside true b e = cc
  waits_inside false b e = first_inside b e

  -- the link at which a vehicle waits, if it waits
  abbrev pub waits_on : Option ℕ
  waits_on = waits_at (has_moved v T) (first_link p v)

  -- what a vehicle has in parts of the waiting lines of all out-links
  waiting_part : (line : ℕ → List RiderState) (L : List RiderState) → ((b : ℕ) → filter mine (line b) ≡ cond (is_first b waits_on) L [])
      → flat_map (λ n. filter mine (flat_map line (outs p n))) (all_nodes p) ≡ cond (is_some waits_on) L []
  unfolding network.outs
  waiting_part line L each =
      flat_same (λ n. filter mine (flat_map line (outs p n))) (λ n. flat_map (λ b. cond (nat_eq (link_at p b).from.0 n) (cond (is_first b waits_on) L []) []) (numbers_below (length p.net.links))) (all_nodes p)
      (λ n. at_node (λ b. (link_at p b).from.0) (length p.net.links) n mine line waits_on L each)
      ∙ spread (λ b. (link_at p b).from.0) (length p.net.links) (length p.net.nodes) L waits_on (λ b e. (waits_inside (has_moved v T) b e, ((steady_of p sound).ends b (waits_inside (has_moved v T) b e)).0))

  waiting_total : flat_map waiting (all_nodes p) ≡ cond (is_some waits_on) W []
  waiting_total = waiting_part (waiting_before p t) W (λ b. waiting_one p t b v)

  -- what a vehicle has among those in the waiting lines of all out-links that pass a test
  pub passing_one : (f : RiderState → Bool) → filter mine (flat_map (λ n. flat_map (λ b. filter f (waiting_before p t b)) (outs p n)) (all_nodes p)) ≡ cond (is_some waits_on) (filter f W) []
  passing_one f =
      filter-flat mine (λ n. flat_map (λ b. filter f (waiting_before p t b)) (outs p n)) (all_nodes p)
      ∙ waiting_part (λ b. filter f (waiting_before p t b)) (filter f W)
      (λ b. filter_swap mine f (waiting_before p t b) ∙ ap (filter f) (waiting_one p t b v) ∙ filter_some f (is_first b waits_on) W)

  -- a vehicle with a route is one of the plan, and its route has a first link; else it has none
  pub routed_has : (o : Option (Option (List LinkNo))) → slice_get p.routes v ≡ o → some_route o ≡ true → (v < vehicle_count p) × ((b : ℕ) × (slice_get (route_in o) 0 ≡ Some b))
  routed_has None e h = cc
  routed_has (Some None) e h = cc
  routed_has (Some (Some route)) e h =
      let below = slice_get_within p.routes v (Some route) e in
      let each = sound.each in
      let here = slice_get-get_or p.trips v some_trip (omega (arith, below, each)) in
      let long = (sound.walks v _ route here e).some in
      (omega (arith, below, each), (_, slice_get-get_or (link_numbers route) 0 0 long))

  pub unrouted : (o : Option (Option (List LinkNo))) → some_route o ≡ false → slice_get (route_in o) 0 ≡ None
  unrouted None h = refl
  unrouted (Some None) h = refl
  unrouted (Some (Some route)) h = cc

  pub one_number : v < vehicle_count p → filter (λ w. nat_eq w v) (vehicles_of p) ≡ v ∷ []
  one_number h =
      filter-singles (λ w. nat_eq w v) (vehicles_of p)
      ∙ flat_one (λ w. cond (nat_eq w v) (w ∷ []) []) (vehicle_count p) 0 v (omega arith) (omega (arith, h)) (λ w other. rw (ne_eqb w v other) refl)
      ∙ rw (eq-eqb v v refl) refl

  parts : filter mine (all_riders p t) ≡ flat_map (λ n. running n ++ (waiting n ++ arrived_of p t v n)) (all_nodes p)
  unfolding all_riders
  parts = filter-flat mine (riders_at p t) (all_nodes p)
      ∙ flat_same _ (λ n. running n ++ (waiting n ++ arrived_of p t v n)) (all_nodes p)
      (λ n. filter-append mine (flat_map (line_before p t) (ins p n)) (flat_map (waiting_before p t) (outs p n) ++ arrived_before p n t)
      ∙ ap (λ L. running n ++ L) (filter-append mine (flat_map (waiting_before p t) (outs p n)) (arrived_before p n t)))

  -- who waits has no last move, so is in a waiting line alone
  one_waits : has_moved v T ≡ false → flat_map (λ n. running n ++ (waiting n ++ arrived_of p t v n)) (all_nodes p) ≡ cond (is_routed p v) R []
  unfolding is_routed first_link route_of
  one_waits none =
      let o = no-last v T none in
      only_second running waiting (arrived_of p t v) (all_nodes p)
      (running_total on_inside ∙ rw o refl)
      (arrived_total p (steady_of p sound) t v ∙ rw o refl)
      ∙ waiting_total ∙ rw none (waits_step (cases_Bool (some_route (slice_get p.routes v))))
    where
      waits_step : (some_route (slice_get p.routes v) ≡ true) ⊎ (some_route (slice_get p.routes v) ≡ false) → cond (is_some (slice_get (route_in (slice_get p.routes v)) 0)) W [] ≡ cond (some_route (slice_get p.routes v)) R []
      waits_step (inl h) = let has = routed_has (slice_get p.routes v) refl h in rw (h, has.1.1, one_number has.0) refl
      waits_step (inr h) = rw (h, unrouted (slice_get p.routes v) h) refl

  -- who has moved is on a link or has arrived
  one_moved : has_moved v T ≡ true → flat_map (λ n. running n ++ (waiting n ++ arrived_of p t v n)) (all_nodes p) ≡ cond (is_routed p v) R []
  unfolding is_due
  one_moved moved =
      let x = last_in (InTable (length p.net.links)) v T [] (trace-in p (steady_of p sound) t) moved in
      let routed : is_routed p v ≡ true = (and_parts _ _ (mover_due p t T (trace-lawful p t) v moved)).0 in
      let nobody : flat_map waiting (all_nodes p) ≡ [] = waiting_total ∙ rw moved refl in
      by_target x.0 x.1 x.2 routed nobody (x.0).target refl
    where
      by_target : (m : Move) → last_move v T ≡ Some m → InTable (length p.net.links) m → is_routed p v ≡ true → flat_map waiting (all_nodes p) ≡ [] → (y : Target) → m.target ≡ y
          → flat_map (λ n. running n ++ (waiting n ++ arrived_of p t v n)) (all_nodes p) ≡ cond (is_routed p v) R []
      by_target m last inside routed nobody (Onto l) s =
          let on : link_of (last_move v T) ≡ Some l = ap link_of last ∙ ap link_by s in
          let stays : leads_out (last_move v T) ≡ false = ap leads_out last ∙ ap (λ y. not (is_onto y)) s in
          only_first running waiting (arrived_of p t v) (all_nodes p) nobody (arrived_total p (steady_of p sound) t v ∙ rw stays refl)
          ∙ running_total on_inside ∙ rw (on, routed) refl
      by_target m last inside routed nobody Arrived s =
          let on : link_of (last_move v T) ≡ None = ap link_of last ∙ ap link_by s in
          let out : leads_out (last_move v T) ≡ true = ap leads_out last ∙ ap (λ y. not (is_onto y)) s in
          only_third running waiting (arrived_of p t v) (all_nodes p) (running_total on_inside ∙ rw on refl) nobody
          ∙ arrived_total p (steady_of p sound) t v ∙ rw (out, routed) refl

  once : filter mine (all_riders p t) ≡ cond (is_routed p v) R []
  once = parts ∙ once_step (cases_Bool (has_moved v T))
    where
      once_step : (has_moved v T ≡ true) ⊎ (has_moved v T ≡ false) → flat_map (λ n. running n ++ (waiting n ++ arrived_of p t v n)) (all_nodes p) ≡ cond (is_routed p v) R []
      once_step (inl e) = one_moved e
      once_step (inr e) = one_waits e

  single : (b : Bool) → is_routed p v ≡ b → All (λ r. (r ≡ rider_at p T v) × (v < vehicle_count p)) (cond b R [])
  unfolding is_routed
  single true e = All-cons (λ r. (r ≡ rider_at p T v) × (v < vehicle_count p)) (rider_at p T v) [] (refl, (routed_has (slice_get p.routes v) refl e).0) (All-nil (λ r. (r ≡ rider_at p T v) × (v < vehicle_count p)))
  single false e = All-nil _

  held : All (λ r. (r ≡ rider_at p T v) × (v < vehicle_count p)) (filter mine (all_riders p t))
  held = subst (All (λ r. (r ≡ rider_at p T v) × (v < vehicle_count p))) (sym once) (single (is_routed p v) refl)

  at_most : (b : Bool) → length (cond b R []) ≤ 1
  at_most true = omega arith
  at_most false = omega arith

pub nodes_hold_all : NodesHoldAll
nodes_hold_all p sound t =
    let T = trace_after p t in
    let all = all_numbered (λ v r. (r ≡ rider_at p T v) × (v < vehicle_count p)) (all_riders p t) (λ v. held p sound t v) (rider_at p T 0) in
    record {
      once = λ v. once p sound t v;
      each = All-weaker (λ r. (r ≡ rider_at p T r.number) × (r.number < vehicle_count p)) (λ r. r ≡ rider_at p T r.number) (λ r h. h.0) (all_riders p t) all;
      few = few_numbered (vehicle_count p) (all_riders p t) (λ v. subst (λ L. length L ≤ 1) (sym (once p sound t v)) (at_most p sound t v (is_routed p v)))
          (All-weaker (λ r. (r ≡ rider_at p T r.number) × (r.number < vehicle_count p)) (λ r. r.number < vehicle_count p) (λ r h. h.1) (all_riders p t) all);
    }
