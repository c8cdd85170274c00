-- Counts over a trace, by the journeys of the vehicles.
use Rattle.std.specs.List.{zip}
use Rattle.std.specs.Prelude.{All, count_by, drop, filter, find, nat_eq, nat_le, nat_lt}
use Rattle.std.specs.Prelude.{option_to_list, slice_get, sum_by}
use Rattle.std.proofs.Common.{◌≡◌, ◌≢◌, ℕ, zero, suc, ◌+◌, ◌<◌, Bool, true, false, cond, ◌&&◌, not}
use Rattle.std.proofs.Common.{List, [], ◌∷◌, ◌++◌, map, refl, ap, sym, ◌∙◌, subst, arith}
use Rattle.std.proofs.Common.{append_assoc, append-nil, Option, Some, None, ◌⊎◌, inl, inr}
use Rattle.std.specs.List.{last_or}
use Rattle.std.proofs.lemmas.Bool.Decides.{eqb_tells}
use Rattle.std.proofs.lemmas.List.{map-append}
use Rattle.std.proofs.lemmas.List.Elements.{All-head, All-tail, All-weaker}
use Rattle.std.proofs.lemmas.Option.{none-some}
use Rattle.std.proofs.Math.Dec.{eqb}
use Rattle.net_core.specs.Network.{numbers_below}
use Rattle.dta_model.specs.Loading.{arrival_of, entries_of, is_entry, journey_of, step_in}
use Rattle.dta_model.specs.Loading.{trace_after}
use Rattle.dta_model.specs.Plans.{route_of, vehicle_count, vehicles_of}
use Rattle.dta_model.specs.Room.{leavings}
use Rattle.dta_model.specs.Trace.{Arrived, Move, Onto, Target, is_link, is_of, last_move}
use Rattle.dta_model.specs.Trace.{leads_there, leads_to, moves_of, stands_on, target_at}
use Rattle.dta_model.specs.declared.plan.Plan.{Plan}
use Rattle.dta_model.proofs.Arrivals.{arrival_is_last}
use Rattle.dta_model.proofs.Conserved.{link_onto}
use Rattle.dta_model.proofs.Ends.{found_fails}
use Rattle.dta_model.proofs.Fuel.{Lawful, trace-lawful}
use Rattle.dta_model.proofs.Journeys.{routes_are_followed}
use Rattle.dta_model.proofs.Leavings.{leavings-push}
use Rattle.dta_model.proofs.Left.{leavings-all}
use Rattle.dta_model.proofs.Pushes.{moves_of-append}
use Rattle.dta_model.proofs.Riders.{last_move_is, other_move, own_move}
use Rattle.dta_model.proofs.Totals.{sum_alike, sum_both, sum_zero, vehicle_count_one}
use Rattle.traffic_laws.specs.Told.{EntriesAreTold, LeavingsAreTold, told_entries, told_leavings}
use Rattle.traffic_laws.specs.Told.{told_within}
use Rattle.traffic_laws.proofs.Counts.{count-append, count-cons, one_if}

-- ---- a count over moves is that over the moves of each vehicle
by_vehicle : (f : Move → Bool) (n : ℕ) (L : List Move) → All (λ m. m.vehicle < n) L
    → count_by f L ≡ sum_by (λ v. count_by f (moves_of v L)) (numbers_below n)
unfolding moves_of
by_vehicle f n [] all = sym (sum_zero n 0)
by_vehicle f n (m ∷ L) all =
    let here = vehicle_count_one m.vehicle n (f m) (All-head (λ x. x.vehicle < n) m L all) in
    let a = count-cons f m L in
    let b = sum_alike (λ v. count_by f (moves_of v (m ∷ L)))
    (λ v. one_if (eqb m.vehicle v && f m) + count_by f (moves_of v L))
    (λ v. one_more v (eqb m.vehicle v) refl) (numbers_below n) in
    let c = sum_both (λ v. one_if (eqb m.vehicle v && f m)) (λ v. count_by f (moves_of v L))
    (numbers_below n) in
    let rest = by_vehicle f n L (All-tail (λ x. x.vehicle < n) m L all) in
    omega (arith, here, a, b, c, rest)
  where
    one_more : (v : ℕ) (b : Bool) → b ≡ eqb m.vehicle v
        → count_by f (cond b (m ∷ filter (is_of v) L) (filter (is_of v) L))
        ≡ one_if (b && f m) + count_by f (filter (is_of v) L)
    one_more v true r = count-cons f m (filter (is_of v) L)
    one_more v false r = omega arith

no_moves_of : (v : ℕ) → moves_of v [] ≡ []
unfolding moves_of
no_moves_of v = refl

stands_is : (l : ℕ) (T : List Move) (v : ℕ) → stands_on l T v ≡ leads_there l (last_move v T)
unfolding stands_on
stands_is l T v = refl

-- moves that follow a route, from some place on
abbrev Follow : List Move → List ℕ → Type 0
Follow ms R = (i : ℕ) (m : Move) → slice_get ms i ≡ Some m → m.target ≡ target_at (slice_get R i)

nobody_told : (R : List ℕ) (l s u : ℕ) → told_within (zip R []) l s u ≡ 0
nobody_told [] l s u = refl
nobody_told (b ∷ R) l s u = refl

leads_by : (l b : ℕ) (x : Target) → x ≡ Onto b → is_link l x ≡ nat_eq b l
leads_by l b x e = ap (is_link l) e

leads_nowhere : (l : ℕ) (x : Target) → x ≡ Arrived → is_link l x ≡ false
leads_nowhere l x e = ap (is_link l) e

module _ (l s u : ℕ) where
  -- their entries
  told-moves : (ms : List Move) (R : List ℕ) → Follow ms R
      → count_by (λ m. leads_to l m && nat_le s m.step && nat_lt m.step u) ms
      ≡ told_within (zip R (map (λ m. m.step) ms)) l s u
  told-moves [] R h = sym (nobody_told R l s u)
  told-moves (m ∷ ms) [] h =
      let a = count-cons (λ x. leads_to l x && nat_le s x.step && nat_lt x.step u) m ms in
      let out : one_if (leads_to l m && nat_le s m.step && nat_lt m.step u) ≡ 0 =
      ap (λ c. one_if (c && nat_le s m.step && nat_lt m.step u))
      (leads_nowhere l m.target (h 0 m refl)) in
      let rest = told-moves ms [] (λ i x e. h (suc i) x e) in
      omega (arith, a, out, rest)
  told-moves (m ∷ ms) (b ∷ R) h =
      let a = count-cons (λ x. leads_to l x && nat_le s x.step && nat_lt x.step u) m ms in
      let c = count-cons (λ (e : ℕ × ℕ). nat_eq e.0 l && nat_le s e.1 && nat_lt e.1 u)
      (b, m.step) (zip R (map (λ x. x.step) ms)) in
      let here = ap (λ d. one_if (d && nat_le s m.step && nat_lt m.step u))
      (leads_by l b m.target (h 0 m refl)) in
      let rest = told-moves ms R (λ i x e. h (suc i) x e) in
      omega (arith, a, c, here, rest)

  -- the moves that follow one onto link l, `before` being the move before them
  followers : Option Move → List Move → List Move
  followers before [] = []
  followers before (m ∷ ms) =
      cond (leads_there l before) (m ∷ followers (Some m) ms) (followers (Some m) ms)

  followers-push : (before : Option Move) (ms : List Move) (m : Move)
      → followers before (ms ++ m ∷ [])
      ≡ followers before ms ++ cond (leads_there l (last_or before ms)) (m ∷ []) []
  unfolding followers
  followers-push before [] m = refl
  followers-push before (x ∷ ms) m =
      by (leads_there l before) (followers-push (Some x) ms m)
    where
      by : (c : Bool)
          → followers (Some x) (ms ++ m ∷ [])
          ≡ followers (Some x) ms ++ cond (leads_there l (last_or (Some x) ms)) (m ∷ []) []
          → cond c (x ∷ followers (Some x) (ms ++ m ∷ [])) (followers (Some x) (ms ++ m ∷ []))
          ≡ cond c (x ∷ followers (Some x) ms) (followers (Some x) ms)
          ++ cond (leads_there l (last_or (Some x) ms)) (m ∷ []) []
      by true ih = ap (λ L. x ∷ L) ih
      by false ih = ih

  -- their steps beside the links that they leave
  told-after : (x : Move) (ms : List Move) (R : List ℕ) → x.target ≡ target_at (slice_get R 0)
      → Follow ms (drop 1 R)
      → count_by (λ m. true && nat_le s m.step && nat_lt m.step u) (followers (Some x) ms)
      ≡ told_within (zip R (map (λ m. m.step) ms)) l s u
  unfolding followers
  told-after x [] R at h = sym (nobody_told R l s u)
  told-after x (m ∷ ms) [] at h =
      let out = leads_nowhere l x.target at in
      rw out (told-after m ms [] (h 0 m refl) (λ i y e. h (suc i) y e))
  told-after x (m ∷ ms) (b ∷ R) at h =
      let c = count-cons (λ (e : ℕ × ℕ). nat_eq e.0 l && nat_le s e.1 && nat_lt e.1 u)
      (b, m.step) (zip R (map (λ y. y.step) ms)) in
      let rest = told-after m ms R (h 0 m refl) (further R h) in
      let here = by (leads_to l x) in
      let same = ap (λ d. one_if (d && nat_le s m.step && nat_lt m.step u))
      (leads_by l b x.target at) in
      omega (arith, c, rest, here, same)
    where
      further : (R : List ℕ) → Follow (m ∷ ms) R → Follow ms (drop 1 R)
      further [] h i y e = h (suc i) y e
      further (d ∷ R) h i y e = h (suc i) y e

      by : (d : Bool)
          → count_by (λ y. true && nat_le s y.step && nat_lt y.step u)
          (cond d (m ∷ followers (Some m) ms) (followers (Some m) ms))
          ≡ one_if (d && nat_le s m.step && nat_lt m.step u)
          + count_by (λ y. true && nat_le s y.step && nat_lt y.step u) (followers (Some m) ms)
      by true = count-cons (λ y. true && nat_le s y.step && nat_lt y.step u) m
          (followers (Some m) ms)
      by false = omega arith

  told-leavings : (ms : List Move) (R : List ℕ) → Follow ms R
      → count_by (λ m. true && nat_le s m.step && nat_lt m.step u) (followers None ms)
      ≡ told_within (zip R (drop 1 (map (λ m. m.step) ms))) l s u
  unfolding followers
  told-leavings [] R h = sym (nobody_told R l s u)
  told-leavings (m ∷ ms) R h = told-after m ms R (h 0 m refl) (further R h)
    where
      further : (R : List ℕ) → Follow (m ∷ ms) R → Follow ms (drop 1 R)
      further [] h i y e = h (suc i) y e
      further (d ∷ R) h i y e = h (suc i) y e

  -- a vehicle's leavings of link l are its moves that follow one onto it
  follow_all : (v : ℕ) (M U : List Move)
      → moves_of v (leavings l [] U) ≡ followers None (moves_of v U)
      → moves_of v (leavings l [] (U ++ M)) ≡ followers None (moves_of v (U ++ M))
  follow_all v [] U h =
      subst (λ L. moves_of v (leavings l [] L) ≡ followers None (moves_of v L))
      (sym (append-nil U)) h
  follow_all v (m ∷ M) U h =
      subst (λ L. moves_of v (leavings l [] L) ≡ followers None (moves_of v L))
      (append_assoc U (m ∷ []) M) (follow_all v M (U ++ m ∷ []) (pushed (eqb_tells m.vehicle v)))
    where
      whole : moves_of v (leavings l [] (U ++ m ∷ []))
          ≡ followers None (moves_of v U) ++ moves_of v (cond (stands_on l U m.vehicle) (m ∷ []) [])
      whole =
          ap (λ L. moves_of v L) (leavings-push l U m)
          ∙ moves_of-append v (leavings l [] U) (cond (stands_on l U m.vehicle) (m ∷ []) [])
          ∙ ap (λ L. L ++ moves_of v (cond (stands_on l U m.vehicle) (m ∷ []) [])) h

      own : (c : Bool) → m.vehicle ≡ v → moves_of v (cond c (m ∷ []) []) ≡ cond c (m ∷ []) []
      own true same = own_move v m same
      own false same = no_moves_of v

      other : (c : Bool) → m.vehicle ≢ v → moves_of v (cond c (m ∷ []) []) ≡ []
      other true away = other_move v m away
      other false away = no_moves_of v

      stood : m.vehicle ≡ v
          → stands_on l U m.vehicle ≡ leads_there l (last_or None (moves_of v U))
      stood same =
          ap (λ w. stands_on l U w) same ∙ stands_is l U v
          ∙ ap (leads_there l) (last_move_is v U)

      pushed : ((eqb m.vehicle v ≡ true) × (m.vehicle ≡ v))
          ⊎ ((eqb m.vehicle v ≡ false) × (m.vehicle ≢ v))
          → moves_of v (leavings l [] (U ++ m ∷ [])) ≡ followers None (moves_of v (U ++ m ∷ []))
      pushed (inl (e, same)) =
          whole
          ∙ ap (λ L. followers None (moves_of v U) ++ L)
          (own (stands_on l U m.vehicle) same ∙ ap (λ c. cond c (m ∷ []) []) (stood same))
          ∙ sym (followers-push None (moves_of v U) m)
          ∙ ap (λ L. followers None L)
          (sym (moves_of-append v U (m ∷ []) ∙ ap (λ L. moves_of v U ++ L) (own_move v m same)))
      pushed (inr (e, away)) =
          whole
          ∙ ap (λ L. followers None (moves_of v U) ++ L) (other (stands_on l U m.vehicle) away)
          ∙ append-nil (followers None (moves_of v U))
          ∙ ap (λ L. followers None L)
          (sym (moves_of-append v U (m ∷ []) ∙ ap (λ L. moves_of v U ++ L) (other_move v m away)
          ∙ append-nil (moves_of v U)))

  no_leavings : (v : ℕ) → moves_of v (leavings l [] []) ≡ followers None (moves_of v [])
  unfolding moves_of leavings followers
  no_leavings v = refl

  follow : (v : ℕ) (T : List Move)
      → moves_of v (leavings l [] T) ≡ followers None (moves_of v T)
  follow v T = follow_all v T [] (no_leavings v)

module _ (p : Plan) where
  abbrev T : List Move
  T = trace_after p p.horizon

  below : All (λ m. m.vehicle < vehicle_count p) T
  below =
      All-weaker (Lawful p p.horizon) (λ m. m.vehicle < vehicle_count p) (λ m a. a.below) T
      (trace-lawful p p.horizon)

  first_ones : {X : Type 0} (xs ys : List X) (i : ℕ) (x : X) → slice_get xs i ≡ Some x
      → slice_get (xs ++ ys) i ≡ Some x
  first_ones [] ys i x e = absurd (none-some x e)
  first_ones (y ∷ xs) ys zero x e = e
  first_ones (y ∷ xs) ys (suc i) x e = first_ones xs ys i x e

  abbrev entering : ℕ → List Move
  entering v = filter is_entry (moves_of v T)

  abbrev leaving : ℕ → List Move
  leaving v = option_to_list (find (λ m. not (is_entry m)) (moves_of v T))

  entries_follow : (v : ℕ) → Follow (entering v) (route_of p v)
  entries_follow v i m e =
      routes_are_followed p p.horizon v i m
      (ap (λ L. slice_get L i) (arrival_is_last p p.horizon v)
      ∙ first_ones (entering v) (leaving v) i m e)

  none_arrives_there : (l s u v : ℕ)
      → count_by (λ m. leads_to l m && nat_le s m.step && nat_lt m.step u) (leaving v) ≡ 0
  none_arrives_there l s u v = by (find (λ m. not (is_entry m)) (moves_of v T)) refl
    where
      onto : (c : Bool) → (c ≡ true → ⊥) → (k : ℕ) → one_if (c && nat_le s k && nat_lt k u) ≡ 0
      onto true h k = absurd (h refl)
      onto false h k = refl

      clash : (b : Bool) → b ≡ true → b ≡ false → ⊥
      clash b e f = let g : true ≡ false = sym e ∙ f in cc

      by : (o : Option Move) → find (λ m. not (is_entry m)) (moves_of v T) ≡ o
          → count_by (λ m. leads_to l m && nat_le s m.step && nat_lt m.step u) (option_to_list o)
          ≡ 0
      by None e = refl
      by (Some m) e =
          let a = count-cons (λ x. leads_to l x && nat_le s x.step && nat_lt x.step u) m [] in
          let none = onto (leads_to l m)
          (λ f. clash (is_entry m) (link_onto l m.target f) (found_fails (moves_of v T) m e))
          m.step in
          omega (arith, a, none)

  entries_of_one : (l s u v : ℕ)
      → count_by (λ m. leads_to l m && nat_le s m.step && nat_lt m.step u) (moves_of v T)
      ≡ told_within (told_entries p v) l s u
  unfolding journey_of entries_of
  entries_of_one l s u v =
      let f = ap (λ L. count_by (λ m. leads_to l m && nat_le s m.step && nat_lt m.step u) L)
      (arrival_is_last p p.horizon v) in
      let both = count-append (λ m. leads_to l m && nat_le s m.step && nat_lt m.step u)
      (entering v) (leaving v) in
      let none = none_arrives_there l s u v in
      let told = told-moves l s u (entering v) (route_of p v) (entries_follow v) in
      omega (arith, f, both, none, told)

  steps_are : (v : ℕ)
      → map (λ m. m.step) (moves_of v T)
      ≡ (journey_of p v).entries ++ option_to_list (journey_of p v).arrival
  unfolding journey_of entries_of arrival_of
  steps_are v =
      ap (map (λ m. m.step)) (arrival_is_last p p.horizon v)
      ∙ map-append (λ m. m.step) (entering v) (leaving v)
      ∙ ap (λ L. map (λ m. m.step) (entering v) ++ L)
      (one_step (find (λ m. not (is_entry m)) (moves_of v T)))
    where
      one_step : (o : Option Move)
          → map (λ m. m.step) (option_to_list o) ≡ option_to_list (step_in o)
      one_step None = refl
      one_step (Some m) = refl

  leavings_of_one : (l s u v : ℕ)
      → count_by (λ m. true && nat_le s m.step && nat_lt m.step u) (moves_of v (leavings l [] T))
      ≡ told_within (told_leavings p v) l s u
  leavings_of_one l s u v =
      ap (λ L. count_by (λ m. true && nat_le s m.step && nat_lt m.step u) L) (follow l s u v T)
      ∙ told-leavings l s u (moves_of v T) (route_of p v)
      (λ i m e. routes_are_followed p p.horizon v i m e)
      ∙ ap (λ L. told_within (zip (route_of p v) (drop 1 L)) l s u) (steps_are v)

pub entries_are_told : EntriesAreTold
entries_are_told p l s u =
    by_vehicle (λ m. leads_to l m && nat_le s m.step && nat_lt m.step u) (vehicle_count p)
    (trace_after p p.horizon) (below p)
    ∙ sum_alike _ (λ v. told_within (told_entries p v) l s u) (entries_of_one p l s u)
    (vehicles_of p)

pub leavings_are_told : LeavingsAreTold
leavings_are_told p l s u =
    by_vehicle (λ m. true && nat_le s m.step && nat_lt m.step u) (vehicle_count p)
    (leavings l [] (trace_after p p.horizon))
    (leavings-all (λ m. m.vehicle < vehicle_count p) l (trace_after p p.horizon) [] (below p))
    ∙ sum_alike _ (λ v. told_within (told_leavings p v) l s u) (leavings_of_one p l s u)
    (vehicles_of p)
