-- Entries, departures, turns, leavings and arrivals of a link, along a trace.
use Rattle.std.specs.Prelude.{All, count_by, nat_eq, slice_get, ◌≢◌}
use Rattle.std.proofs.Common.{◌≡◌, ◌⊎◌, inl, inr, ℕ, zero, suc, ◌+◌, ◌/◌, ◌<◌, ◌≤◌, Bool, true}
use Rattle.std.proofs.Common.{false, cond, not, ◌&&◌, ◌||◌, List, [], ◌∷◌, ◌++◌, length, refl, ap}
use Rattle.std.proofs.Common.{sym, ◌∙◌, arith, Option, Some, None, append_assoc, append-nil}
use Rattle.std.proofs.lemmas.Bool.{cases_Bool}
use Rattle.std.proofs.lemmas.Bool.Decides.{eqb_tells}
use Rattle.std.proofs.lemmas.List.Elements.{All-append, All-head, All-tail}
use Rattle.std.proofs.lemmas.Option.{same_Some}
use Rattle.std.proofs.Math.Dec.{eqb}
use Rattle.net_core.specs.Network.{numbers_below}
use Rattle.dta_model.specs.LinkTimes.{buckets_to, entered_in, table_of}
use Rattle.dta_model.specs.Loading.{is_entry, is_onto, trace_after}
use Rattle.dta_model.specs.NodeMoves.{is_first}
use Rattle.dta_model.specs.Plans.{first_link, route_of, vehicle_count, vehicles_of}
use Rattle.dta_model.specs.Room.{entered_by, leavings}
use Rattle.dta_model.specs.Sound.{IsSound}
use Rattle.dta_model.specs.Trace.{Arrived, Move, Onto, Target, has_moved, is_link}
use Rattle.dta_model.specs.Trace.{leads_there, leads_to, moves_made, next_target, stands_on}
use Rattle.dta_model.specs.Trace.{target_at}
use Rattle.dta_model.specs.declared.plan.Plan.{Plan}
use Rattle.dta_model.specs.Laws.{MovesInOrder}
use Rattle.dta_model.proofs.Fuel.{last_in, trace-lawful}
use Rattle.dta_model.proofs.InOrder.{Fits, Follows, trace-follows}
use Rattle.dta_model.proofs.Journeys.{steps_below}
use Rattle.dta_model.proofs.Left.{entries_add_up}
use Rattle.dta_model.proofs.NoMoves.{no-moves}
use Rattle.dta_model.proofs.Onward.{onto_one}
use Rattle.dta_model.proofs.Pushes.{has_moved-append, moves_made_is}
use Rattle.dta_model.proofs.Standing.{in-queue, no-last}
use Rattle.dta_model.proofs.Steady.{steady_of}
use Rattle.dta_model.proofs.Totals.{InTable, sum_alike, sum_both, sum_zero, trace-in}
use Rattle.dta_model.proofs.Totals.{vehicle_count_one}
use Rattle.link_times.proofs.Places.{bucket_inside}
use Rattle.link_times.proofs.Sums.{sum_in, sum_in-more, sum_in-none}
use Rattle.counts.specs.Turns.{takes, timed, times_taken}
use Rattle.counts.proofs.OverVehicles.{taken, taken-more, taken-none}
use Rattle.gap.proofs.Sums.{over-le}
use Rattle.traffic_laws.proofs.Arriving.{arrivals_are, arrived, ends, nobody_arrived}
use Rattle.traffic_laws.proofs.BucketTimes.{entered_is}
use Rattle.traffic_laws.proofs.Counts.{count-cons, one_if}
use Rattle.traffic_laws.specs.Buckets.{EntriesComeFrom, LeavingsGoTo, departures_onto}
use Rattle.traffic_laws.specs.Buckets.{arrivals_from, entries_of_link, leavings_of, sum_below}
use Rattle.traffic_laws.specs.Buckets.{turns_between}

-- equal numbers below a bound have equal sums
sum_same : (n : ℕ) (f g : ℕ → ℕ) → ((k : ℕ) → k < n → f k ≡ g k) → sum_below n f ≡ sum_below n g
sum_same n f g e =
    let a = over-le n f g (λ k h. let x = e k h in omega (arith, x)) in
    let b = over-le n g f (λ k h. let x = e k h in omega (arith, x)) in
    omega (arith, a, b)

none_of : (n : ℕ) (f : ℕ → ℕ) → ((k : ℕ) → f k ≡ 0) → sum_below n f ≡ 0
none_of n f z = sum_alike f (λ k. 0) z (numbers_below n) ∙ sum_zero n 0

-- one of the first numbers passes a test for itself
one_of : (n k : ℕ) (e : Bool) (f : ℕ → ℕ) → k < n → ((i : ℕ) → f i ≡ one_if (nat_eq k i && e))
    → sum_below n f ≡ one_if e
one_of n k e f h is =
    sum_alike f (λ i. one_if (nat_eq k i && e)) is (numbers_below n) ∙ vehicle_count_one k n e h

-- ---- turns from a link to another, along a trace
turning : ℕ → ℕ → List Move → List Move → ℕ
turning a b before [] = 0
turning a b before (m ∷ M) =
    one_if (stands_on a before m.vehicle && leads_to b m) + turning a b (before ++ m ∷ []) M

module _ (bucket buckets : ℕ) where
  takes_is : (a b k : ℕ) (before : List Move) (m : Move)
      → one_if (takes bucket (timed a b k) before m)
      ≡ one_if (nat_eq (m.step / bucket) k && (stands_on a before m.vehicle && leads_to b m))
  unfolding takes
  takes_is a b k before m =
      by (stands_on a before m.vehicle) (leads_to b m) (nat_eq (m.step / bucket) k)
    where
      by : (x y z : Bool) → one_if (x && y && z) ≡ one_if (z && (x && y))
      by true true true = refl
      by true true false = refl
      by true false true = refl
      by true false false = refl
      by false true true = refl
      by false true false = refl
      by false false true = refl
      by false false false = refl

  all_taken : (a b : ℕ) (before M : List Move) → All (λ m. m.step / bucket < buckets) M
      → sum_below buckets (λ k. taken bucket (timed a b k) before M) ≡ turning a b before M
  unfolding turning
  all_taken a b before [] inside =
      none_of buckets (λ k. taken bucket (timed a b k) before [])
      (λ k. taken-none bucket (timed a b k) before)
  all_taken a b before (m ∷ M) inside =
      let later : ℕ → ℕ = λ k. taken bucket (timed a b k) (before ++ m ∷ []) M in
      let here : ℕ → ℕ = λ k. cond (takes bucket (timed a b k) before m) 1 0 in
      let each = sum_alike (λ k. taken bucket (timed a b k) before (m ∷ M)) (λ k. here k + later k)
      (λ k. taken-more bucket (timed a b k) before m M) (numbers_below buckets) in
      let both = sum_both here later (numbers_below buckets) in
      let one = one_of buckets (m.step / bucket) (stands_on a before m.vehicle && leads_to b m) here
      (All-head (λ x. x.step / bucket < buckets) m M inside) (λ k. takes_is a b k before m) in
      let rest = all_taken a b (before ++ m ∷ []) M
      (All-tail (λ x. x.step / bucket < buckets) m M inside) in
      omega (arith, each, both, one, rest)

  -- the visits of all buckets are all entries
  all_entered : (p : Plan) (l : ℕ) (M : List Move) → All (λ m. m.step / bucket < buckets) M
      → sum_below buckets (λ k. sum_in (λ v. 1) p bucket l k M) ≡ count_by (leads_to l) M
  all_entered p l [] inside =
      none_of buckets (λ k. sum_in (λ v. 1) p bucket l k [])
      (λ k. sum_in-none (λ v. 1) p bucket l k)
  all_entered p l (m ∷ M) inside =
      let later : ℕ → ℕ = λ k. sum_in (λ v. 1) p bucket l k M in
      let here : ℕ → ℕ = λ k. cond (leads_to l m) (one_if (nat_eq (m.step / bucket) k)) 0 in
      let each = sum_alike (λ k. sum_in (λ v. 1) p bucket l k (m ∷ M)) (λ k. here k + later k)
      (λ k. sum_in-more (λ v. 1) p bucket l k m M) (numbers_below buckets) in
      let both = sum_both here later (numbers_below buckets) in
      let one = one_of buckets (m.step / bucket) (leads_to l m) here
      (All-head (λ x. x.step / bucket < buckets) m M inside)
      (λ k. by (leads_to l m) (nat_eq (m.step / bucket) k)) in
      let rest = all_entered p l M (All-tail (λ x. x.step / bucket < buckets) m M inside) in
      let more = count-cons (leads_to l) m M in
      omega (arith, each, both, one, rest, more)
    where
      by : (x y : Bool) → cond x (one_if y) 0 ≡ one_if (y && x)
      by true true = refl
      by true false = refl
      by false true = refl
      by false false = refl

-- ---- where a vehicle stood that moves
none_stands : (a v : ℕ) (U : List Move) → has_moved v U ≡ false → stands_on a U v ≡ false
unfolding stands_on
none_stands a v U h = ap (leads_there a) (no-last v U h)

-- who has moved before stands on one link, and that is in the table
record Stood (links : ℕ) (U : List Move) (v : ℕ) : Type 0 where
  link : ℕ
  within : link < links
  only : (a : ℕ) → stands_on a U v ≡ nat_eq link a

stood : (links : ℕ) (U : List Move) (m : Move) → All (InTable links) U → MovesInOrder U m
    → has_moved m.vehicle U ≡ true → Stood links U m.vehicle
unfolding stands_on
stood links U m inside (inl never) moved = let e : true ≡ false = sym moved ∙ never in cc
stood links U m inside (inr (k, first)) moved =
    let x = in-queue k U 0 m.vehicle first in
    let y = last_in (InTable links) m.vehicle U [] inside moved in
    let same : y.0 ≡ x.0 = same_Some (y.0) (x.0) (sym (y.1) ∙ x.1) in
    let at : (x.0).target ≡ Onto k = onto_one k (x.0).target (x.2) in
    record {
      link = k;
      within = y.2 k (ap (λ z. z.target) same ∙ at);
      only = λ a. ap (leads_there a) (x.1) ∙ ap (is_link a) at;
    }

-- ---- entries are departures and turns
departing : ℕ → List Move → List Move → ℕ
departing l before [] = 0
departing l before (m ∷ M) =
    one_if (not (has_moved m.vehicle before) && leads_to l m) + departing l (before ++ m ∷ []) M

entries_split : (p : Plan) (l : ℕ) (before M : List Move) → Follows (Fits p) before M
    → All (InTable (length p.net.links)) before → All (InTable (length p.net.links)) M
    → count_by (leads_to l) M
    ≡ departing l before M + sum_below (length p.net.links) (λ a. turning a l before M)
unfolding departing turning
entries_split p l before [] f old new =
    let none = none_of (length p.net.links) (λ a. turning a l before []) (λ a. refl) in
    omega (arith, none)
entries_split p l before (m ∷ M) f old new =
    let links : ℕ = length p.net.links in
    let later : ℕ → ℕ = λ a. turning a l (before ++ m ∷ []) M in
    let here : ℕ → ℕ = λ a. one_if (stands_on a before m.vehicle && leads_to l m) in
    let both = sum_both here later (numbers_below links) in
    let now = new_one m M new in
    let rest = entries_split p l (before ++ m ∷ []) M f.1 (All-append (InTable links) before
    (m ∷ []) old now) (All-tail (InTable links) m M new) in
    let more = count-cons (leads_to l) m M in
    let one = by (cases_Bool (has_moved m.vehicle before)) in
    omega (arith, both, rest, more, one)
  where
    new_one : (m : Move) (M : List Move) → All (InTable (length p.net.links)) (m ∷ M)
        → All (InTable (length p.net.links)) (m ∷ [])
    new_one m M all zero d h = All-head (InTable (length p.net.links)) m M all
    new_one m M all (suc i) d h = absurd (omega (arith, h))

    by : (has_moved m.vehicle before ≡ true) ⊎ (has_moved m.vehicle before ≡ false)
        → one_if (leads_to l m)
        ≡ one_if (not (has_moved m.vehicle before) && leads_to l m)
        + sum_below (length p.net.links)
        (λ a. one_if (stands_on a before m.vehicle && leads_to l m))
    by (inr never) =
        let none = none_of (length p.net.links)
        (λ a. one_if (stands_on a before m.vehicle && leads_to l m))
        (λ a. rw (none_stands a m.vehicle before never) refl) in
        let first : one_if (not (has_moved m.vehicle before) && leads_to l m)
        ≡ one_if (leads_to l m) = rw never refl in
        omega (arith, none, first)
    by (inl moved) =
        let s = stood (length p.net.links) before m old f.0.0 moved in
        let one = one_of (length p.net.links) s.link (leads_to l m)
        (λ a. one_if (stands_on a before m.vehicle && leads_to l m)) s.within
        (λ a. ap (λ c. one_if (c && leads_to l m)) (s.only a)) in
        let none : one_if (not (has_moved m.vehicle before) && leads_to l m) ≡ 0 = rw moved refl in
        omega (arith, one, none)

-- ---- departures are vehicles whose routes begin on the link
begins : Plan → ℕ → ℕ → Bool
begins p l v = is_first l (first_link p v)

first_leads : (p : Plan) (l : ℕ) (U : List Move) (m : Move) → has_moved m.vehicle U ≡ false
    → m.target ≡ next_target p U m.vehicle → leads_to l m ≡ begins p l m.vehicle
unfolding next_target first_link begins
first_leads p l U m never goes =
    let none : moves_made m.vehicle U ≡ 0 =
    moves_made_is m.vehicle U ∙ ap (λ L. length L) (no-moves m.vehicle U never) in
    ap (is_link l) (goes ∙ ap (λ k. target_at (slice_get (route_of p m.vehicle) k)) none)
    ∙ by (slice_get (route_of p m.vehicle) 0)
  where
    by : (o : Option ℕ) → is_link l (target_at o) ≡ is_first l o
    by None = refl
    by (Some k) = refl

departed : Plan → ℕ → List Move → ℕ
departed p l U = count_by (λ v. begins p l v && has_moved v U) (vehicles_of p)

one_departs : (p : Plan) (l : ℕ) (U : List Move) (m : Move) → m.vehicle < vehicle_count p
    → m.target ≡ next_target p U m.vehicle
    → departed p l (U ++ m ∷ [])
    ≡ departed p l U + one_if (not (has_moved m.vehicle U) && leads_to l m)
unfolding departed has_moved
one_departs p l U m below goes =
    let old : ℕ → ℕ = λ v. one_if (begins p l v && has_moved v U) in
    let e : Bool = begins p l m.vehicle && not (has_moved m.vehicle U) in
    let more : ℕ → ℕ = λ v. one_if (nat_eq m.vehicle v && e) in
    let each = sum_alike (λ v. one_if (begins p l v && has_moved v (U ++ m ∷ [])))
    (λ v. old v + more v) (λ v. ap (λ c. one_if (begins p l v && c)) (has_moved-append v U (m ∷ []))
    ∙ by v (eqb_tells m.vehicle v)) (vehicles_of p) in
    let both = sum_both old more (vehicles_of p) in
    let one = vehicle_count_one m.vehicle (vehicle_count p) e below in
    let same = last_step (cases_Bool (has_moved m.vehicle U)) in
    omega (arith, each, both, one, same)
  where
    grows : (x y : Bool) → one_if (x && (y || (true || false)))
        ≡ one_if (x && y) + one_if (true && (x && not y))
    grows true true = refl
    grows true false = refl
    grows false true = refl
    grows false false = refl

    stays : (x y z : Bool) → one_if (x && (y || (false || false)))
        ≡ one_if (x && y) + one_if (false && z)
    stays true true z = refl
    stays true false z = refl
    stays false true z = refl
    stays false false z = refl

    by : (v : ℕ) → ((eqb m.vehicle v ≡ true) × (m.vehicle ≡ v))
        ⊎ ((eqb m.vehicle v ≡ false) × (m.vehicle ≢ v))
        → one_if (begins p l v && (has_moved v U || (nat_eq m.vehicle v || false)))
        ≡ one_if (begins p l v && has_moved v U)
        + one_if (nat_eq m.vehicle v && (begins p l m.vehicle && not (has_moved m.vehicle U)))
    by v (inl (t, same)) = rw (t, same) (grows (begins p l v) (has_moved v U))
    by v (inr (t, other)) =
        rw t (stays (begins p l v) (has_moved v U)
        (begins p l m.vehicle && not (has_moved m.vehicle U)))

    last_step : (has_moved m.vehicle U ≡ true) ⊎ (has_moved m.vehicle U ≡ false)
        → one_if (begins p l m.vehicle && not (has_moved m.vehicle U))
        ≡ one_if (not (has_moved m.vehicle U) && leads_to l m)
    last_step (inl moved) = rw moved (zero_if (begins p l m.vehicle))
      where
        zero_if : (x : Bool) → one_if (x && false) ≡ 0
        zero_if true = refl
        zero_if false = refl
    last_step (inr never) =
        rw (never, first_leads p l U m never goes) (same_if (begins p l m.vehicle))
      where
        same_if : (x : Bool) → one_if (x && true) ≡ one_if x
        same_if true = refl
        same_if false = refl

departures_are : (p : Plan) (l : ℕ) (before M : List Move) → Follows (Fits p) before M
    → All (λ m. m.vehicle < vehicle_count p) M
    → departed p l (before ++ M) ≡ departed p l before + departing l before M
unfolding departing
departures_are p l before [] f below =
    let e = ap (departed p l) (append-nil before) in omega (arith, e)
departures_are p l before (m ∷ M) f below =
    let whole = ap (departed p l) (append_assoc before (m ∷ []) M) in
    let rest = departures_are p l (before ++ m ∷ []) M f.1
    (All-tail (λ x. x.vehicle < vehicle_count p) m M below) in
    let one = one_departs p l before m (All-head (λ x. x.vehicle < vehicle_count p) m M below)
    f.0.1 in
    omega (arith, whole, rest, one)

nobody_departed : (p : Plan) (l : ℕ) → departed p l [] ≡ 0
unfolding departed has_moved
nobody_departed p l =
    none_of (vehicle_count p) (λ v. one_if (begins p l v && false)) (λ v. by (begins p l v))
  where
    by : (x : Bool) → one_if (x && false) ≡ 0
    by true = refl
    by false = refl

-- ---- leavings are turns and arrivals
leavings_split : (links l : ℕ) (before M : List Move) → All (InTable links) M
    → length (leavings l before M)
    ≡ sum_below links (λ b. turning l b before M)
    + count_by (λ m. not (is_entry m)) (leavings l before M)
unfolding leavings turning
leavings_split links l before [] inside =
    let none = none_of links (λ b. turning l b before []) (λ b. refl) in
    omega (arith, none)
leavings_split links l before (m ∷ M) inside =
    let later : ℕ → ℕ = λ b. turning l b (before ++ m ∷ []) M in
    let here : ℕ → ℕ = λ b. one_if (stands_on l before m.vehicle && leads_to b m) in
    let both = sum_both here later (numbers_below links) in
    let rest = leavings_split links l (before ++ m ∷ []) M (All-tail (InTable links) m M inside) in
    by (stands_on l before m.vehicle) (leavings l (before ++ m ∷ []) M) both rest
  where
    out : Move → Bool
    out x = not (is_entry x)

    onto_any : (x : Target) → ((b : ℕ) → x ≡ Onto b → b < links)
        → sum_below links (λ b. one_if (is_link b x)) + one_if (not (is_onto x)) ≡ 1
    onto_any (Onto k) within =
        let one = one_of links k true (λ b. one_if (is_link b (Onto k))) (within k refl)
        (λ b. same (nat_eq k b)) in
        omega (arith, one)
      where
        same : (x : Bool) → one_if x ≡ one_if (x && true)
        same true = refl
        same false = refl
    onto_any Arrived within =
        let none = none_of links (λ b. one_if (is_link b Arrived)) (λ b. refl) in
        omega (arith, none)

    by : (on : Bool) (L : List Move)
        → sum_below links (λ b. one_if (on && leads_to b m) + turning l b (before ++ m ∷ []) M)
        ≡ sum_below links (λ b. one_if (on && leads_to b m))
        + sum_below links (λ b. turning l b (before ++ m ∷ []) M)
        → length L ≡ sum_below links (λ b. turning l b (before ++ m ∷ []) M)
        + count_by (λ x. not (is_entry x)) L
        → length (cond on (m ∷ L) L)
        ≡ sum_below links (λ b. one_if (on && leads_to b m) + turning l b (before ++ m ∷ []) M)
        + count_by (λ x. not (is_entry x)) (cond on (m ∷ L) L)
    by true L both rest =
        let one = onto_any m.target (All-head (InTable links) m M inside) in
        let more = count-cons (λ x. not (is_entry x)) m L in
        omega (arith, both, rest, one, more)
    by false L both rest =
        let none = none_of links (λ b. one_if (false && leads_to b m)) (λ b. refl) in
        omega (arith, both, rest, none)

-- ---- the laws
module _ (p : Plan) (bucket l : ℕ) (sound : IsSound p) (some : 1 ≤ bucket)
    (h : l < length p.net.links) where
  T : List Move
  T = trace_after p p.horizon

  buckets_inside : All (λ m. m.step / bucket < buckets_to bucket p.horizon)
      (trace_after p p.horizon)
  buckets_inside i d k = bucket_inside bucket p.horizon _ some (steps_below p p.horizon i d k)

  in_links : All (InTable (length p.net.links)) (trace_after p p.horizon)
  in_links = trace-in p (steady_of p sound) p.horizon

  entries_are : entries_of_link p bucket l ≡ entered_by (trace_after p p.horizon) l
  entries_are =
      sum_same (buckets_to bucket p.horizon) (entered_in (table_of p bucket) l)
      (λ k. sum_in (λ v. 1) p bucket l k (trace_after p p.horizon))
      (λ k b. entered_is p bucket l k h b)
      ∙ all_entered bucket (buckets_to bucket p.horizon) p l (trace_after p p.horizon)
      buckets_inside

  turns_are : (a b : ℕ) → turns_between p bucket a b ≡ turning a b [] (trace_after p p.horizon)
  unfolding times_taken
  turns_are a b =
      all_taken bucket (buckets_to bucket p.horizon) a b [] (trace_after p p.horizon) buckets_inside

  departures : departures_onto p l ≡ departing l [] (trace_after p p.horizon)
  unfolding departed begins
  departures =
      let are = departures_are p l [] (trace_after p p.horizon) (trace-follows p p.horizon)
      (λ i d k. (trace-lawful p p.horizon i d k).below) in
      let none = nobody_departed p l in
      omega (arith, are, none)

  come_from : entries_of_link p bucket l
      ≡ departures_onto p l + sum_below (length p.net.links) (λ a. turns_between p bucket a l)
  come_from =
      let all = entries_are in
      let split = entries_split p l [] (trace_after p p.horizon) (trace-follows p p.horizon)
      (λ i d k. absurd (omega (arith, k))) in_links in
      let first = departures in
      let turns = sum_alike (λ a. turns_between p bucket a l)
      (λ a. turning a l [] (trace_after p p.horizon)) (λ a. turns_are a l)
      (numbers_below (length p.net.links)) in
      omega (arith, all, split, first, turns)

  arrivals : arrivals_from p l
      ≡ count_by (λ m. not (is_entry m)) (leavings l [] (trace_after p p.horizon))
  unfolding arrived ends
  arrivals =
      let are = arrivals_are p p.horizon l [] (trace_after p p.horizon) refl
      (trace-follows p p.horizon) (λ i d k. (trace-lawful p p.horizon i d k).below) in
      let none = nobody_arrived p l in
      omega (arith, are, none)

  left_by : length (leavings_of p l)
      ≡ sum_below (length p.net.links) (λ b. turns_between p bucket l b) + arrivals_from p l
  left_by =
      let split = leavings_split (length p.net.links) l [] (trace_after p p.horizon) in_links in
      let turns = sum_alike (λ b. turns_between p bucket l b)
      (λ b. turning l b [] (trace_after p p.horizon)) (λ b. turns_are l b)
      (numbers_below (length p.net.links)) in
      let out = arrivals in
      omega (arith, split, turns, out)

pub entries_come_from : EntriesComeFrom
entries_come_from p bucket l sound some h = come_from p bucket l sound some h

pub leavings_go_to : LeavingsGoTo
leavings_go_to p bucket l sound some h = record {
  leavings = left_by p bucket l sound some h;
  entries =
      let all = entries_are p bucket l sound some h in
      let up = entries_add_up p p.horizon l in
      omega (arith, all, up);
}
