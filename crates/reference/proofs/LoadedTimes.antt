-- Link times of networks and the costs of loadings are as the search takes them.
use Rattle.std.proofs.Common.{◌≡◌, ◌≢◌, ◌⊎◌, inl, inr, ℕ, ◌+◌, ◌*◌, ◌/◌, ◌<◌, ◌≤◌, Bool, true, false, cond, List, [], ◌∷◌, length, refl, sym, ◌∙◌, subst, arith, Option, None, Some, get_or}
use Rattle.std.specs.Prelude.{All, filter, find, nat_eq, nat_lt, slice_get, sum_by}
use Rattle.std.proofs.Math.Dec.{eqb}
use Rattle.std.proofs.lemmas.Bool.{cases_lt}
use Rattle.std.proofs.lemmas.Bool.Decides.{eqb_tells, nat_tests}
use Rattle.std.proofs.lemmas.List.{length-map}
use Rattle.std.proofs.lemmas.List.Elements.{All-cons, All-filter, All-head, All-nil, All-tail}
use Rattle.std.proofs.lemmas.List.Sums.{sum_by-cons}
use Rattle.net_core.specs.Network.{IsNet}
use Rattle.net_core.specs.declared.rows.NetRows.{NetRows}
use Rattle.dta_model.specs.LinkTimes.{Visit, bucket_time, buckets_to, by_bucket, free_steps, place_in, table_in, table_of, time_at, visit_time, visits, visits_in, penalty_to}
use Rattle.dta_model.specs.Loading.{trace_after}
use Rattle.dta_model.specs.Plans.{link_at}
use Rattle.dta_model.specs.Sound.{IsSound}
use Rattle.dta_model.specs.Trace.{Move, Onto, Target, is_of, leads_to, moves_of}
use Rattle.dta_model.specs.declared.loading.TheConstants.{MOST_HORIZON}
use Rattle.dta_model.specs.declared.plan.Plan.{Plan}
use Rattle.dta_model.proofs.Journeys.{steps_below}
use Rattle.dta_model.proofs.Onward.{onto_one}
use Rattle.link_times.proofs.Links.{steps_at, steps_least, steps_most}
use Rattle.link_times.proofs.Places.{bucket_inside, by_bucket-get}
use Rattle.link_times.proofs.RoundedUp.{mean_least, mean_most}
use Rattle.link_times.proofs.TravelTimes.{Lasts, Spaced, moves_are_spaced}
use Rattle.route_flows.specs.Selection.{free_time}
use Rattle.trip_costs.specs.LoadingCosts.{costs_by, costs_over}
use Rattle.trip_costs.specs.OriginWaits.{WaitTable, waits_of}
use Rattle.trip_costs.specs.Timings.{Links}
use Rattle.trip_costs.specs.declared.loading_costs.Costs.{Costs}
use Rattle.trip_costs.specs.declared.loading_costs.Costs.TheVariants as kind
use Rattle.trip_costs.proofs.Rising.{exits_ordered}
use Rattle.reference.specs.Searched.{AreCosts, AreTimesWithin}

-- ---- free-flow steps
abbrev pub InRange : ℕ → Type 0
InRange n = (1 ≤ n) × (n ≤ MOST_HORIZON)

steps-in-range : (net : NetRows) (l : ℕ) → IsNet net → l < length net.links → InRange (get_or (free_steps net) l 0)
steps-in-range net l sound h =
    let many = length-map net.links (λ link. link.free) in
    let inside : l < length (free_steps net) = omega (arith, h, many) in (
      steps_least net sound l 0 inside,
      steps_most net sound l 0 inside,
    )

pub free-times : (net : NetRows) → IsNet net → AreCosts (Links (free_time net)) net
unfolding free_time
free-times net sound = record {
  least = λ l step h. (steps-in-range net l sound h).0;
  no_more = λ l step h. (steps-in-range net l sound h).1;
}

-- ---- the moves of vehicles, each in order
abbrev InOrder : Plan → List Move → Type 0
InOrder p T = (v : ℕ) → Spaced p None (moves_of v T)

spaced-on : (p : Plan) (before : Option Move) (M : List Move) → Spaced p before M → Spaced p None M
spaced-on p before [] s = tt
spaced-on p None (m ∷ M) s = s
spaced-on p (Some e) (m ∷ M) s = s.1

own-moves : (m : Move) (R : List Move) → moves_of m.vehicle (m ∷ R) ≡ m ∷ moves_of m.vehicle R
unfolding moves_of
own-moves m R = by (eqb_tells m.vehicle m.vehicle)
  where
    by : ((eqb m.vehicle m.vehicle ≡ true) × (m.vehicle ≡ m.vehicle)) ⊎ ((eqb m.vehicle m.vehicle ≡ false) × (m.vehicle ≢ m.vehicle))
        → cond (eqb m.vehicle m.vehicle) (m ∷ moves_of m.vehicle R) (moves_of m.vehicle R) ≡ m ∷ moves_of m.vehicle R
    by (inl (t, same)) = rw t refl
    by (inr (f, other)) = absurd (other refl)

later-in-order : (p : Plan) (m : Move) (R : List Move) → InOrder p (m ∷ R) → InOrder p R
unfolding moves_of
later-in-order p m R all v = by (eqb m.vehicle v) (all v)
  where
    by : (b : Bool) → Spaced p None (cond b (m ∷ moves_of v R) (moves_of v R)) → Spaced p None (moves_of v R)
    by true s = spaced-on p (Some m) (moves_of v R) s
    by false s = s

-- the next move of a vehicle is the first of its own
find-own : (v : ℕ) (R : List Move) → find (is_of v) R ≡ slice_get (moves_of v R) 0
unfolding moves_of
find-own v [] = refl
find-own v (m ∷ R) = by (eqb m.vehicle v) (find-own v R)
  where
    by : (b : Bool) → find (is_of v) R ≡ slice_get (moves_of v R) 0 → cond b (Some m) (find (is_of v) R) ≡ slice_get (cond b (m ∷ moves_of v R) (moves_of v R)) 0
    by true ih = refl
    by false ih = ih

found-holds : (P : Move → Type 0) (test : Move → Bool) (R : List Move) (n : Move) → All P R → find test R ≡ Some n → P n
found-holds P test [] n all e = cc
found-holds P test (m ∷ R) n all e = by (λ f. found-holds P test R n (All-tail P m R all) f) (test m) e
  where
    by : (find test R ≡ Some n → P n) → (b : Bool) → cond b (Some m) (find test R) ≡ Some n → P n
    by more true e = let same : m ≡ n = cc in subst P same (All-head P m R all)
    by more false e = more e

lasts-first : (p : Plan) (m n : Move) (M : List Move) → Spaced p (Some m) M → slice_get M 0 ≡ Some n → Lasts p m n
lasts-first p m n [] s e = cc
lasts-first p m n (k ∷ M) s e = let same : k ≡ n = cc in subst (λ x. Lasts p m x) same s.0

-- ---- visits take a step at least, and no more than a horizon
module _ (p : Plan) (sound : IsSound p) (l : ℕ) (inside : l < length p.net.links) where
  free-in-range : InRange (link_at p l).free
  free-in-range = subst InRange (steps_at p.net l inside) (steps-in-range p.net l sound.net inside)

  lasts-onto : (m n : Move) → leads_to l m ≡ true → Lasts p m n → m.step + (link_at p l).free + penalty_to p l n.target ≤ n.step
  lasts-onto m n leads lasts = by m.target (onto_one l m.target leads) lasts
    where
      by : (x : Target) → x ≡ Onto l → Lasts p (record { step = m.step; vehicle = m.vehicle; target = x }) n
          → m.step + (link_at p l).free + penalty_to p l n.target ≤ n.step
      by x same h = subst (λ y. Lasts p (record { step = m.step; vehicle = m.vehicle; target = y }) n) same h

  visit-in-range : (m : Move) (R : List Move) → InOrder p (m ∷ R) → All (λ k. k.step < p.horizon) R → leads_to l m ≡ true → InRange (visit_time p l m.step (find (is_of m.vehicle) R))
  visit-in-range m R order early leads = by (find (is_of m.vehicle) R) refl
    where
      next-lasts : (n : Move) → find (is_of m.vehicle) R ≡ Some n → Lasts p m n
      next-lasts n e =
          lasts-first p m n (moves_of m.vehicle R) (subst (λ M. Spaced p None M) (own-moves m R) (order m.vehicle)) (sym (find-own m.vehicle R) ∙ e)

      by : (o : Option Move) → find (is_of m.vehicle) R ≡ o → InRange (visit_time p l m.step o)
      by None e =
          let least = free-in-range.0 in
          let most = free-in-range.1 in
          let horizon = sound.horizon_most in
          (omega (arith, least), omega (arith, most, horizon))
      by (Some n) e =
          let least = free-in-range.0 in
          let lasts = lasts-onto m n leads (next-lasts n e) in
          let before = found-holds (λ k. k.step < p.horizon) (is_of m.vehicle) R n early e in
          let horizon = sound.horizon_most in
          (omega (arith, least, lasts), omega (arith, before, horizon))

  visits-in-range : (T : List Move) → InOrder p T → All (λ k. k.step < p.horizon) T → All (λ v. InRange v.time) (visits p l T)
  unfolding visits
  visits-in-range [] order early = All-nil (λ v. InRange v.time)
  visits-in-range (m ∷ R) order early = by (visits-in-range R (later-in-order p m R order) (All-tail (λ k. k.step < p.horizon) m R early)) (leads_to l m) refl
    where
      this : Visit
      this = record { entry = m.step; time = visit_time p l m.step (find (is_of m.vehicle) R) }

      by : All (λ v. InRange v.time) (visits p l R) → (b : Bool) → leads_to l m ≡ b → All (λ v. InRange v.time) (cond b (this ∷ visits p l R) (visits p l R))
      by rest true leads = All-cons (λ v. InRange v.time) this (visits p l R) (visit-in-range m R order (All-tail (λ k. k.step < p.horizon) m R early) leads) rest
      by rest false leads = rest

-- ---- buckets
sum-in-range : (vs : List Visit) → All (λ v. InRange v.time) vs → (length vs ≤ sum_by (λ v. v.time) vs) × (sum_by (λ v. v.time) vs ≤ length vs * MOST_HORIZON)
sum-in-range [] all = (omega arith, omega arith)
sum-in-range (v ∷ vs) all =
    let rest = sum-in-range vs (All-tail (λ v. InRange v.time) v vs all) in
    let here = All-head (λ v. InRange v.time) v vs all in
    let sum = sum_by-cons (λ (v : Visit). v.time) v vs in
    let a = rest.0 in
    let b = rest.1 in
    let c = here.0 in
    let d = here.1 in
    (omega (arith, a, c, sum), omega (arith, b, d, sum))

bucket-in-range : (free : ℕ) (vs : List Visit) → InRange free → All (λ v. InRange v.time) vs → InRange (bucket_time free vs)
bucket-in-range free [] f all = f
bucket-in-range free (v ∷ vs) f all =
    let sums = sum-in-range (v ∷ vs) all in
    let low = sums.0 in
    let high = sums.1 in (
      mean_least (sum_by (λ v. v.time) (v ∷ vs)) (length (v ∷ vs)) (omega arith) low,
      mean_most (sum_by (λ v. v.time) (v ∷ vs)) (length (v ∷ vs)) (omega arith) high,
    )

-- ---- the table of a sound loading
module _ (p : Plan) (sound : IsSound p) (bucket : ℕ) (some : 1 ≤ bucket) where
  bucket-of-loading : (l b : ℕ) → l < length p.net.links → InRange (bucket_time (link_at p l).free (visits_in p bucket l b (trace_after p p.horizon)))
  unfolding visits_in
  bucket-of-loading l b inside =
      let T = trace_after p p.horizon in
      bucket-in-range (link_at p l).free (filter (λ v. nat_eq (v.entry / bucket) b) (visits p l T)) (free-in-range p sound l inside)
      (All-filter (λ (v : Visit). nat_eq (v.entry / bucket) b) (λ v. InRange v.time) (visits p l T)
      (visits-in-range p sound l inside T (moves_are_spaced p p.horizon) (steps_below p p.horizon)))

  time-in-range : (l step : ℕ) → l < length p.net.links → InRange (time_at (table_of p bucket) l step)
  unfolding time_at table_in
  time-in-range l step inside = by (cases_lt step p.horizon)
    where
      links : ℕ
      links = length p.net.links

      buckets : ℕ
      buckets = buckets_to bucket p.horizon

      each : ℕ → ℕ → ℕ
      each k b = bucket_time (link_at p k).free (visits_in p bucket k b (trace_after p p.horizon))

      by : (step < p.horizon) ⊎ (p.horizon ≤ step)
          → InRange (cond (nat_lt step p.horizon) (get_or (by_bucket links buckets each) (place_in buckets l (step / bucket)) 0) (get_or (free_steps p.net) l 0))
      by (inl early) =
          let t : nat_lt step p.horizon ≡ true = grind (arith, nat_tests) in
          rw t (subst InRange (sym (by_bucket-get links buckets each l (step / bucket) inside (bucket_inside bucket p.horizon step some early)))
          (bucket-of-loading l (step / bucket) inside))
      by (inr late) =
          let f : nat_lt step p.horizon ≡ false = grind (arith, nat_tests) in
          rw f (steps-in-range p.net l sound.net inside)

  loaded-times : AreTimesWithin MOST_HORIZON (time_at (table_of p bucket)) p.net
  loaded-times = record {
    least = λ l step h. (time-in-range l step h).0;
    no_more = λ l step h. (time-in-range l step h).1;
  }

  -- ---- and its costs
  over-table : (costs : Costs) (w : WaitTable) → AreCosts (costs_over costs (table_of p bucket) w) p.net
  over-table kind.Links w = loaded-times
  over-table kind.Trips w = exits_ordered (table_of p bucket)

  pub loaded-costs : (costs : Costs) → AreCosts (costs_by costs p bucket) p.net
  loaded-costs costs = over-table costs (waits_of p bucket)
