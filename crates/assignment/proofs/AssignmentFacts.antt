-- The iterations of an assignment, one after another.
use Rattle.trip_costs.specs.Timings.{Timing}
use Rattle.std.specs.Prelude.{All, Bool, count_by, slice_get}
use Rattle.std.proofs.Common.{◌≡◌, ℕ, ◌+◌, ◌-◌, ◌<◌, ◌≤◌, List, [], ◌∷◌, ◌++◌, length, refl, ap, sym, subst, ◌∙◌, arith, rules, length-append, ◌⊎◌, inl, inr, Some}
use Rattle.std.specs.List.{IsDistinct}
use Rattle.std.proofs.lemmas.Bool.{cases_lt}
use Rattle.std.proofs.lemmas.List.{get_or_append_left, length-map}
use Rattle.std.proofs.lemmas.List.FromFn.{length-map-range_with_len, length-range_with_len}
use Rattle.std.proofs.lemmas.List.Sums.{count_by-le-length}
use Rattle.std.proofs.lemmas.Option.{get_or_from_slice_get, slice_get-get_or, slice_get_within}
use Rattle.std.proofs.Math.Seq.{get_or-append_seam}
use Rattle.net_core.specs.Network.{IsNet, numbers_below}
use Rattle.net_core.specs.declared.rows.NetRows.{NetRows}
use Rattle.dta_model.specs.LinkTimes.{TimeTable, free_steps, table_in, table_of}
use Rattle.dta_model.specs.Loading.{journey_of, journeys_of}
use Rattle.dta_model.specs.Sound.{AreWalks, IsSound}
use Rattle.dta_model.specs.State.{arrived_in, eight_after, eight_in, running_in, waiting_in}
use Rattle.dta_model.specs.declared.eight.Eight.{Eight}
use Rattle.dta_model.specs.declared.loaded.Journey.{Journey}
use Rattle.dta_model.specs.declared.queue.Queue.TheVariants as queue
use Rattle.dta_model.specs.declared.loading.TheConstants.{MOST_HORIZON}
use Rattle.dta_model.specs.declared.plan.Plan.{Plan}
use Rattle.dta_model.specs.declared.trip.Trip.{Trip}
use Rattle.link_times.proofs.Links.{steps_most}
use Rattle.link_times.specs.TimeTables.{IsShort}
use Rattle.gap.specs.Gap.{IsGapLine}
use Rattle.gap.specs.declared.line.GapLine.{GapLine}
use Rattle.route_flows.specs.Averages.{AreNextRoutes, AreStartedRoutes}
use Rattle.start_table.specs.Starts.{AreStartRows}
use Rattle.reports.specs.Texts.{AreOnNet}
use Rattle.reports.proofs.TextsFacts.{walks-on-net}
use Rattle.dta_words.specs.Ranges.{AreSettings}
use Rattle.dta_words.specs.declared.command.Settings.{Settings}
use Rattle.assignment.specs.Assignment.{Traffic, VehicleRoutes, costs_of, end_of, plan_of, times_of}
use Rattle.assignment.specs.Iterations.{AllIterations, AreIterations}
use Rattle.assignment.specs.Progress.{HasBegun, HasEnded, HasNext, IsAssigned, IsAt}
use Rattle.assignment.specs.Traffic.{AreRoutesOf, AreTripsBelow}
use Rattle.assignment.specs.declared.iterations.Assigned.{Assigned}

-- traffic, settings and routes make a sound loading
pub sound-plan : (s : Settings) (traffic : Traffic) (routes : VehicleRoutes) → AreSettings s → IsNet traffic.net → AreTripsBelow s.horizon traffic.trips
    → AreRoutesOf traffic routes → IsSound (plan_of s traffic routes)
sound-plan s traffic routes settings net trips are = record {
  net = net;
  delta_least = settings.step.0;
  delta_most = settings.step.1;
  horizon_least = settings.horizon.0;
  horizon_most = (let h = settings.horizon.1 in omega (arith, h));
  queue = settings.queue;
  trips = trips.in_order;
  rising = trips.rising;
  early = trips.early;
  each = are.each;
  walks = are.walks;
}

-- the free-flow steps of a loading's table are those of its network
table-free : (p : Plan) (bucket : ℕ) → (table_of p bucket).free ≡ free_steps p.net
unfolding table_in
table-free p bucket = refl

-- a table of a loading has the free-flow steps of its links, and so as many as there are links
pub free-of : (s : Settings) (traffic : Traffic) (routes : VehicleRoutes) (t : TimeTable) → t ≡ times_of s traffic routes → t.free ≡ free_steps traffic.net
free-of s traffic routes t e = ap (λ (x : TimeTable). x.free) e ∙ table-free (plan_of s traffic routes) s.bucket

pub table-links : (s : Settings) (traffic : Traffic) (routes : VehicleRoutes) (t : TimeTable) → t ≡ times_of s traffic routes → length t.free ≡ length traffic.net.links
table-links s traffic routes t e =
    ap length (free-of s traffic routes t e) ∙ length-map traffic.net.links (λ link. link.free)

-- ---- lists with one more

-- an element of a list stands there too once more is added
pub get-kept : {A : Type 0} → (xs ys : List A) (i : ℕ) (x : A) → slice_get xs i ≡ Some x → slice_get (xs ++ ys) i ≡ Some x
get-kept xs ys i x e =
    let h = slice_get_within xs i x e in
    slice_get-get_or (xs ++ ys) i x (omega (arith, h, length-append xs ys))
    ∙ ap Some (get_or_append_left xs ys x i h ∙ get_or_from_slice_get xs i x x e)

-- and one that stands early in the longer list stood there before
pub get-back : {A : Type 0} → (xs ys : List A) (i : ℕ) (x : A) → slice_get (xs ++ ys) i ≡ Some x → i < length xs → slice_get xs i ≡ Some x
get-back xs ys i x e h =
    slice_get-get_or xs i x h
    ∙ ap Some (sym (get_or_append_left xs ys x i h) ∙ get_or_from_slice_get (xs ++ ys) i x x e)

-- after a list stands what was added to it
pub get-last : {A : Type 0} → (xs : List A) (y : A) (i : ℕ) (x : A) → slice_get (xs ++ y ∷ []) i ≡ Some x → i ≡ length xs → y ≡ x
get-last xs y i x e h =
    sym (get_or-append_seam xs y [] x)
    ∙ get_or_from_slice_get (xs ++ y ∷ []) (length xs) x x (rw (← h) e)

-- and it stands at the last place
pub get-added : {A : Type 0} → (xs : List A) (y : A) (i : ℕ) → i ≡ length xs → slice_get (xs ++ y ∷ []) i ≡ Some y
get-added xs y i h =
    rw h (slice_get-get_or (xs ++ y ∷ []) (length xs) y (omega (arith, length-append xs (y ∷ [])))
    ∙ ap Some (get_or-append_seam xs y [] y))

-- how far a place is in a list with one more
pub last-or-before : {A : Type 0} → (xs : List A) (y : A) (i : ℕ) (x : A) → slice_get (xs ++ y ∷ []) i ≡ Some x → (i < length xs) ⊎ (i ≡ length xs)
last-or-before xs y i x e = by (cases_lt i (length xs))
  where
    by : (i < length xs) ⊎ (length xs ≤ i) → (i < length xs) ⊎ (i ≡ length xs)
    by (inl h) = inl h
    by (inr h) =
        let w = slice_get_within (xs ++ y ∷ []) i x e in
        inr (omega (arith, w, h, length-append xs (y ∷ [])))

-- ---- the iterations

-- no rows of a start table
pub no-start-rows : AreStartRows []
unfolding IsDistinct
no-start-rows = record { distinct = tt; few = search rules }

module _ (s : Settings) (traffic : Traffic) where
  -- the first routes alone
  pub only-first : (r : VehicleRoutes) → AreStartRows traffic.start → AreStartedRoutes traffic.net traffic.start traffic.trips r → AreIterations s traffic (r ∷ []) []
  only-first r rows are = record {
    start = rows;
    first = λ z e. subst (AreStartedRoutes traffic.net traffic.start traffic.trips) (get-last [] r 0 z e refl) are;
    next = λ i old new e f. let h = slice_get_within (r ∷ []) (i + 1) new f in absurd (omega (arith, h));
    gaps = λ i z line e f. let h = slice_get_within {A = GapLine} [] i line f in absurd (omega (arith, h));
  }

  -- the gap of the last iteration
  pub with-gap : (done : List VehicleRoutes) (r : VehicleRoutes) (lines : List GapLine) (line : GapLine) → length lines ≡ length done
      → IsGapLine (costs_of s traffic r) traffic.net traffic.trips r line
      → AreIterations s traffic (done ++ r ∷ []) lines → AreIterations s traffic (done ++ r ∷ []) (lines ++ line ∷ [])
  with-gap done r lines line many gap it = record {
    start = it.start;
    first = it.first;
    next = it.next;
    gaps = λ i z l e f. by i z l e f (last-or-before lines line i l f);
  }
    where
      by : (i : ℕ) (z : VehicleRoutes) (l : GapLine) → slice_get (done ++ r ∷ []) i ≡ Some z → slice_get (lines ++ line ∷ []) i ≡ Some l
          → (i < length lines) ⊎ (i ≡ length lines) → IsGapLine (costs_of s traffic z) traffic.net traffic.trips z l
      by i z l e f (inl h) = it.gaps i z l e (get-back lines (line ∷ []) i l f h)
      by i z l e f (inr h) =
          subst (λ (z : VehicleRoutes). IsGapLine (costs_of s traffic z) traffic.net traffic.trips z l) (get-last done r i z e (h ∙ many))
          (subst (IsGapLine (costs_of s traffic r) traffic.net traffic.trips r) (get-last lines line i l f h) gap)

  -- the routes of one more iteration
  pub with-next : (done : List VehicleRoutes) (r next : VehicleRoutes) (lines : List GapLine) → length lines ≡ length done + 1
      → AreNextRoutes (costs_of s traffic r) traffic.net traffic.trips (length done + 1) r next
      → AreIterations s traffic (done ++ r ∷ []) lines → AreIterations s traffic ((done ++ r ∷ []) ++ next ∷ []) lines
  with-next done r next lines many are it = record {
    start = it.start;
    first = λ z e. it.first z (get-back all (next ∷ []) 0 z e (omega (arith, long)));
    next = λ i old new e f. by i old new e f (last-or-before all next (i + 1) new f);
    gaps = λ i z l e f.
        let h = slice_get_within lines i l f in
        it.gaps i z l (get-back all (next ∷ []) i z e (omega (arith, h, long, many))) f;
  }
    where
      all : List VehicleRoutes
      all = done ++ r ∷ []

      long : length (done ++ r ∷ []) ≡ length done + 1
      long = omega (arith, length-append done (r ∷ []))

      by : (i : ℕ) (old new : VehicleRoutes) → slice_get ((done ++ r ∷ []) ++ next ∷ []) i ≡ Some old → slice_get ((done ++ r ∷ []) ++ next ∷ []) (i + 1) ≡ Some new
          → (i + 1 < length (done ++ r ∷ [])) ⊎ (i + 1 ≡ length (done ++ r ∷ [])) → AreNextRoutes (costs_of s traffic old) traffic.net traffic.trips (i + 1) old new
      by i old new e f (inl h) =
          it.next i old new (get-back (done ++ r ∷ []) (next ∷ []) i old e (omega (arith, h))) (get-back (done ++ r ∷ []) (next ∷ []) (i + 1) new f h)
      by i old new e f (inr h) =
          let at : i ≡ length done = omega (arith, h, long) in
          let was = get-last done r i old (get-back (done ++ r ∷ []) (next ∷ []) i old e (omega (arith, h))) at in
          let is = get-last (done ++ r ∷ []) next (i + 1) new f h in
          subst (λ (n : ℕ). AreNextRoutes (costs_of s traffic old) traffic.net traffic.trips (n + 1) old new) (sym at)
          (subst (λ (old : VehicleRoutes). AreNextRoutes (costs_of s traffic old) traffic.net traffic.trips (length done + 1) old new) was
          (subst (AreNextRoutes (costs_of s traffic r) traffic.net traffic.trips (length done + 1) r) is are))

  -- an iteration that isn't the last is done
  abbrev pub ahead : (number : ℕ) (r next : VehicleRoutes) (lines more : List GapLine)
      → IsAt s traffic number r lines → HasNext s traffic number r next lines more → IsAt s traffic (number + 1) next more
  ahead number r next lines more at has =
      let many = at.as_many in
      let gaps = at.with_gaps in
      let long = length-append at.done (r ∷ []) in
      let added = length-append lines (has.line ∷ []) in
      record {
        done = at.done ++ r ∷ [];
        as_many = omega (arith, many, long);
        with_gaps = rw has.pushed (omega (arith, gaps, long, added));
        iterations = rw has.pushed (with-next at.done r next (lines ++ has.line ∷ []) (omega (arith, gaps, added))
            (subst (λ (n : ℕ). AreNextRoutes (costs_of s traffic r) traffic.net traffic.trips n r next) (sym many) has.next_are)
            (with-gap at.done r lines has.line gaps has.gap at.iterations));
        routed = has.routed;
      }

  -- the last iteration is done
  abbrev pub assigned : (r : VehicleRoutes) (lines : List GapLine) (a : Assigned)
      → IsAt s traffic s.iterations r lines → HasEnded s traffic r lines a → IsAssigned s traffic a
  assigned r lines a at has = record {
    done = at.done;
    as_many = at.as_many;
    before = lines;
    with_gaps = at.with_gaps;
    lines_are = has.pushed;
    iterations = rw has.pushed (with-gap at.done a.routes lines a.line at.with_gaps has.gap
        (subst (λ (x : VehicleRoutes). AreIterations s traffic (at.done ++ x ∷ []) lines) (sym has.same) at.iterations));
    last = has.last;
  }

  -- the first iteration is about to be loaded
  abbrev pub begun : (r : VehicleRoutes) (lines : List GapLine) → AreStartRows traffic.start → HasBegun traffic r lines → IsAt s traffic 1 r lines
  begun r lines rows has = record {
    done = [];
    as_many = refl;
    with_gaps = rw has.none refl;
    iterations = rw has.none (only-first r rows has.started);
    routed = has.routed;
  }

  -- all iterations of an assignment that is done
  abbrev pub all-of : (a : Assigned) → IsAssigned s traffic a → AllIterations s.iterations (costs_of s traffic) traffic
  all-of a is =
      let many = is.as_many in
      let gaps = is.with_gaps in record {
        routes = is.done ++ a.routes ∷ [];
        lines = a.lines.items;
        last = a.routes;
        line = a.line;
        iterations = is.iterations;
        as_many = omega (arith, many, length-append is.done (a.routes ∷ []));
        with_gaps = rw is.lines_are (omega (arith, many, gaps, length-append is.before (a.line ∷ [])));
        last_routes = get-added is.done a.routes (s.iterations - 1) (omega (arith, many));
        last_line = rw is.lines_are (get-added is.before a.line (s.iterations - 1) (omega (arith, many, gaps)));
      }

  -- what a call says of an iteration by its costs, and of its routes where these were moved
  pub has-next : (number : ℕ) (r old next : VehicleRoutes) (lines more : List GapLine) (line : GapLine) (costs : Timing)
      → old ≡ r → costs ≡ costs_of s traffic r → more ≡ lines ++ line ∷ []
      → IsGapLine costs traffic.net traffic.trips old line
      → AreNextRoutes costs traffic.net traffic.trips number old next
      → AreWalks traffic.net traffic.trips next
      → HasNext s traffic number r next lines more
  has-next number r old next lines more line costs same is pushed gap are walks = record {
    line = line;
    pushed = pushed;
    gap =
        subst (λ (t : Timing). IsGapLine t traffic.net traffic.trips r line) is
        (subst (λ (x : VehicleRoutes). IsGapLine costs traffic.net traffic.trips x line) same gap);
    next_are =
        subst (λ (t : Timing). AreNextRoutes t traffic.net traffic.trips number r next) is
        (subst (λ (x : VehicleRoutes). AreNextRoutes costs traffic.net traffic.trips number x next) same are);
    routed = record { each = are.as_many; walks = walks };
  }

-- what is true over trips and costs is true over the same ones, lent together
pub over-timed : {s t : Timing} {n m : NetRows} {ts us : List Trip} (P : Timing → NetRows → List Trip → Type 0)
    → s ≡ t → n ≡ m → ts ≡ us → P s n ts → P t m us
over-timed {s} {t} {n} {m} {ts} P same net trips p =
    subst (λ us. P t m us) trips (subst (λ m. P t m ts) net (subst (λ t. P t n ts) same p))

-- walks stay walks in another place
pub walks-too : (net : NetRows) (trips : List Trip) (old r : VehicleRoutes) → old ≡ r → AreWalks net trips r → AreWalks net trips old
walks-too net trips old r same = subst (λ (x : VehicleRoutes). AreWalks net trips x) (sym same)

-- the last state of a loading that has this plan
pub end-in : (p q : Plan) (end : Eight) → p ≡ q → end ≡ eight_after p p.horizon → end ≡ eight_after q q.horizon
end-in p q end e is = subst (λ (x : Plan). end ≡ eight_after x x.horizon) e is

-- ---- what the texts of an assignment ask

-- the routes are over the network
pub on-net : (traffic : Traffic) (routes : VehicleRoutes) → AreRoutesOf traffic routes → AreOnNet traffic.net routes
on-net traffic routes are =
    walks-on-net (record { net = traffic.net; queue = queue.Point; delta = 1; horizon = 1; trips = traffic.trips; routes = routes }) are.walks are.each

-- as many journeys as trips
pub many-journeys : (s : Settings) (traffic : Traffic) (routes : VehicleRoutes) (loaded : List Journey)
    → loaded ≡ journeys_of (plan_of s traffic routes) → length loaded ≡ length traffic.trips
unfolding journeys_of
many-journeys s traffic routes loaded is =
    ap length is ∙ length-map-range_with_len (journey_of (plan_of s traffic routes)) 0 (length traffic.trips)

count_few : (p : ℕ → Bool) (n : ℕ) → count_by p (numbers_below n) ≤ n
count_few p n =
    let a = count_by-le-length p (numbers_below n) in
    let b = length-range_with_len 0 n in
    omega (arith, a, b)

-- no more vehicles wait, run or have arrived than there are
pub few-waiting : (s : Settings) (traffic : Traffic) (r : VehicleRoutes) (end : Eight)
    → end ≡ end_of s traffic r → end.waiting ≤ length traffic.trips
unfolding eight_after eight_in waiting_in
few-waiting s traffic r end is = rw is (count_few _ (length traffic.trips))

pub few-running : (s : Settings) (traffic : Traffic) (r : VehicleRoutes) (end : Eight)
    → end ≡ end_of s traffic r → end.running ≤ length traffic.trips
unfolding eight_after eight_in running_in
few-running s traffic r end is = rw is (count_few _ (length traffic.trips))

pub few-arrived : (s : Settings) (traffic : Traffic) (r : VehicleRoutes) (end : Eight)
    → end ≡ end_of s traffic r → end.arrived ≤ length traffic.trips
unfolding eight_after eight_in arrived_in
few-arrived s traffic r end is = rw is (count_few _ (length traffic.trips))
