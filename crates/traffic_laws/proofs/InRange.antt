-- The numbers of a table of link times are those that its reader takes.
use Rattle.std.specs.Prelude.{All, filter, find, nat_eq, sum_by}
use Rattle.std.specs.List.{flat_map}
use Rattle.std.proofs.Common.{◌≡◌, ◌⊎◌, inl, inr, ℕ, zero, suc, ◌+◌, ◌*◌, ◌/◌, ◌<◌, ◌≤◌, Bool}
use Rattle.std.proofs.Common.{true, false, cond, List, [], ◌∷◌, ◌++◌, length, length-append, refl}
use Rattle.std.proofs.Common.{mul-le-mul, subst, arith, Option, Some, None}
use Rattle.std.proofs.lemmas.Bool.{cases_lt}
use Rattle.std.proofs.lemmas.Grind.{div_ceil_times}
use Rattle.std.proofs.lemmas.List.{length-map}
use Rattle.std.proofs.lemmas.List.Elements.{All-cons, All-filter, All-head, All-nil, All-tail}
use Rattle.std.proofs.lemmas.List.FromFn.{length-range_with_len}
use Rattle.std.proofs.lemmas.List.Sums.{sum_by-cons}
use Rattle.net_core.specs.declared.rows.TheConstants.{MOST_NODES}
use Rattle.dta_model.specs.LinkTimes.{Visit, bucket_time, buckets_to, entered_in}
use Rattle.dta_model.specs.LinkTimes.{table_in, table_of, time_at}
use Rattle.dta_model.specs.LinkTimes.{visit, visit_time, visits, visits_in}
use Rattle.dta_model.specs.Loading.{after_step, step_moves, trace_after}
use Rattle.dta_model.specs.NodeMoves.{grow, grown, next_move, node_moves}
use Rattle.dta_model.specs.Plans.{all_nodes, link_at, vehicle_count}
use Rattle.dta_model.specs.Sound.{IsSound}
use Rattle.dta_model.specs.Trace.{Move, is_of, leads_to}
use Rattle.dta_model.specs.declared.loading.TheConstants.{MOST_HORIZON}
use Rattle.dta_model.specs.declared.plan.Plan.{Plan}
use Rattle.dta_model.specs.declared.trip.TheConstants.{MOST_TRIPS}
use Rattle.dta_model.proofs.Journeys.{steps_below}
use Rattle.link_times.proofs.Links.{steps_at, steps_most}
use Rattle.link_times.proofs.Places.{by_bucket-get, product_le}
use Rattle.link_times.proofs.RoundedUp.{mean_most}
use Rattle.traffic_laws.proofs.BucketTimes.{time_is}
use Rattle.traffic_laws.proofs.Holding.{found_all}

-- ---- a trace has no more moves than vehicles at all nodes in all steps
grown_few : (p : Plan) (n t : ℕ) (T : List Move) (k : ℕ) (M : List Move)
    → length (grown p n t T k M) ≤ k + length M
unfolding grown
grown_few p n t T zero M = omega arith
grown_few p n t T (suc k) M = by (λ m. grown_few p n t T k (M ++ m ∷ [])) (next_move p n t T M)
  where
    by : ((m : Move) → length (grown p n t T k (M ++ m ∷ [])) ≤ k + length (M ++ m ∷ []))
        → (o : Option Move) → length (grow (grown p n t T k) M o) ≤ suc k + length M
    by ih None = omega arith
    by ih (Some m) =
        let more = ih m in
        let one = length-append M (m ∷ []) in
        omega (arith, more, one)

node_few : (p : Plan) (n t : ℕ) (T : List Move) → length (node_moves p n t T) ≤ vehicle_count p
unfolding node_moves
node_few p n t T = let k = grown_few p n t T (vehicle_count p) [] in omega (arith, k)

flat_few : (f : ℕ → List Move) (most : ℕ) → ((n : ℕ) → length (f n) ≤ most) → (ns : List ℕ)
    → length (flat_map f ns) ≤ length ns * most
flat_few f most few [] = omega arith
flat_few f most few (n ∷ ns) =
    let both = length-append (f n) (flat_map f ns) in
    let here = few n in
    let rest = flat_few f most few ns in
    added (length ns) (length (f n)) (length (flat_map f ns))
    (length (f n ++ flat_map f ns)) both here rest
  where
    added : (k a b c : ℕ) → c ≡ a + b → a ≤ most → b ≤ k * most → c ≤ suc k * most
    added k a b c e h i = grind arith

trace_few : (p : Plan) (t : ℕ)
    → length (trace_after p t) ≤ t * (length p.net.nodes * vehicle_count p)
unfolding trace_after after_step
trace_few p zero = omega arith
trace_few p (suc t) =
    let T = trace_after p t in
    let both = length-append T (step_moves p t T (all_nodes p)) in
    let before = trace_few p t in
    let step = flat_few (λ n. node_moves p n t T) (vehicle_count p) (λ n. node_few p n t T)
    (all_nodes p) in
    let many = length-range_with_len 0 (length p.net.nodes) in
    added t (length p.net.nodes * vehicle_count p) (length T)
    (length (step_moves p t T (all_nodes p)))
    (length (T ++ step_moves p t T (all_nodes p))) both before
    (subst (λ k. length (step_moves p t T (all_nodes p)) ≤ k * vehicle_count p) many step)
  where
    added : (t k a b c : ℕ) → c ≡ a + b → a ≤ t * k → b ≤ k → c ≤ suc t * k
    added t k a b c e h i = grind arith

pub few_moves : (p : Plan) → IsSound p
    → length (trace_after p p.horizon) ≤ MOST_HORIZON * (MOST_NODES * MOST_TRIPS)
few_moves p sound =
    let few = trace_few p p.horizon in
    let nodes = sound.net.nodes.few in
    let trips = sound.trips.few in
    let steps = sound.horizon_most in
    let all = mul-le-mul steps (mul-le-mul nodes trips) in
    omega (arith, few, all)

visits_few : (p : Plan) (l : ℕ) (T : List Move) → length (visits p l T) ≤ length T
unfolding visits
visits_few p l [] = omega arith
visits_few p l (m ∷ T) = by (leads_to l m) (visits_few p l T)
  where
    by : (b : Bool) → length (visits p l T) ≤ length T
        → length (cond b (visit p l m T ∷ visits p l T) (visits p l T)) ≤ length (m ∷ T)
    by true ih = omega (arith, ih)
    by false ih = omega (arith, ih)

filter_few : (q : Visit → Bool) (L : List Visit) → length (filter q L) ≤ length L
filter_few q [] = omega arith
filter_few q (v ∷ L) = by (q v) (filter_few q L)
  where
    by : (b : Bool) → length (filter q L) ≤ length L
        → length (cond b (v ∷ filter q L) (filter q L)) ≤ length (v ∷ L)
    by true ih = omega (arith, ih)
    by false ih = omega (arith, ih)

pub few_entered : (p : Plan) → IsSound p → (bucket l b : ℕ) → l < length p.net.links
    → b < buckets_to bucket p.horizon
    → entered_in (table_of p bucket) l b ≤ MOST_HORIZON * (MOST_NODES * MOST_TRIPS)
unfolding entered_in table_in visits_in
few_entered p sound bucket l b hl hb =
    let T = trace_after p p.horizon in
    let is = by_bucket-get (length p.net.links) (buckets_to bucket p.horizon)
    (λ l b. length (visits_in p bucket l b T)) l b hl hb in
    let here = filter_few (λ v. nat_eq (v.entry / bucket) b) (visits p l T) in
    let all = visits_few p l T in
    let most = few_moves p sound in
    omega (arith, is, here, all, most)

-- ---- no link takes more steps than the longest horizon has
abbrev IsShort : Visit → Type 0
IsShort v = v.time ≤ MOST_HORIZON

module _ (p : Plan) (sound : IsSound p) (l : ℕ) (inside : l < length p.net.links) where
  free_short : (link_at p l).free ≤ MOST_HORIZON
  free_short =
      let many = length-map p.net.links (λ link. link.free) in
      subst (λ k. k ≤ MOST_HORIZON) (steps_at p.net l inside)
      (steps_most p.net sound.net l 0 (omega (arith, inside, many)))

  visit_short : (m : Move) (T : List Move) → All (λ k. k.step < p.horizon) T
      → IsShort (visit p l m T)
  visit_short m T early =
      by (find (is_of m.vehicle) T)
      (λ n. found_all (λ k. k.step < p.horizon) (is_of m.vehicle) T n early)
    where
      by : (o : Option Move) → ((n : Move) → o ≡ Some n → n.step < p.horizon)
          → visit_time p l m.step o ≤ MOST_HORIZON
      by None h =
          let free = free_short in
          let horizon = sound.horizon_most in
          omega (arith, free, horizon)
      by (Some n) h =
          let before = h n refl in
          let horizon = sound.horizon_most in
          omega (arith, before, horizon)

  visits_short : (T : List Move) → All (λ k. k.step < p.horizon) T → All IsShort (visits p l T)
  unfolding visits
  visits_short [] early = All-nil IsShort
  visits_short (m ∷ T) early =
      by (leads_to l m) (visits_short T (All-tail (λ k. k.step < p.horizon) m T early))
    where
      by : (b : Bool) → All IsShort (visits p l T)
          → All IsShort (cond b (visit p l m T ∷ visits p l T) (visits p l T))
      by true rest =
          All-cons IsShort (visit p l m T) (visits p l T)
          (visit_short m T (All-tail (λ k. k.step < p.horizon) m T early)) rest
      by false rest = rest

sum_short : (L : List Visit) → All IsShort L → sum_by (λ v. v.time) L ≤ length L * MOST_HORIZON
sum_short [] all = omega arith
sum_short (v ∷ L) all =
    let rest = sum_short L (All-tail IsShort v L all) in
    let here = All-head IsShort v L all in
    let sum = sum_by-cons (λ (v : Visit). v.time) v L in
    omega (arith, rest, here, sum)

bucket_short : (free : ℕ) (L : List Visit) → free ≤ MOST_HORIZON → All IsShort L
    → bucket_time free L ≤ MOST_HORIZON
bucket_short free [] f all = f
bucket_short free (v ∷ L) f all =
    mean_most (sum_by (λ v. v.time) (v ∷ L)) (length (v ∷ L)) (omega arith) (sum_short (v ∷ L) all)

pub time_short : (p : Plan) → IsSound p → (bucket : ℕ) → 1 ≤ bucket → (l step : ℕ)
    → l < length p.net.links → step < p.horizon
    → time_at (table_of p bucket) l step ≤ MOST_HORIZON
unfolding visits_in
time_short p sound bucket some l step hl early =
    let T = trace_after p p.horizon in
    let is = time_is p bucket l step some hl early in
    let low = bucket_short (link_at p l).free
    (filter (λ v. nat_eq (v.entry / bucket) (step / bucket)) (visits p l T))
    (free_short p sound l hl)
    (All-filter (λ (v : Visit). nat_eq (v.entry / bucket) (step / bucket)) IsShort (visits p l T)
    (visits_short p sound l hl T (steps_below p p.horizon))) in
    omega (arith, is, low)

-- ---- buckets
-- a bucket begins before the horizon
pub bucket_begins : (bucket horizon b : ℕ) → 1 ≤ bucket → b < buckets_to bucket horizon
    → b * bucket < horizon
bucket_begins bucket horizon b some h =
    begins (buckets_to bucket horizon) h ((div_ceil_times horizon bucket some).1)
  where
    begins : (d : ℕ) → b < d → d * bucket < horizon + bucket → b * bucket < horizon
    begins d k e =
        let whole = product_le (b + 1) d bucket (omega (arith, k)) in
        let one : (b + 1) * bucket ≡ b * bucket + bucket = grind arith in
        omega (arith, whole, one, e)

-- there are no more buckets than steps
pub few_buckets : (bucket horizon : ℕ) → 1 ≤ bucket → buckets_to bucket horizon ≤ horizon
few_buckets bucket horizon some = by (cases_lt horizon (buckets_to bucket horizon))
  where
    by : (horizon < buckets_to bucket horizon) ⊎ (buckets_to bucket horizon ≤ horizon)
        → buckets_to bucket horizon ≤ horizon
    by (inr k) = k
    by (inl k) =
        let low = bucket_begins bucket horizon horizon some k in
        absurd (less low)
      where
        less : horizon * bucket < horizon → ⊥
        less h =
            let more : horizon * 1 ≤ horizon * bucket = grind arith in
            omega (arith, h, more)
