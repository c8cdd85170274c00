-- Where nothing binds, and turns cost nothing, each link time is the free-flow time.
use Rattle.std.specs.List.{last_or}
use Rattle.std.specs.Prelude.{All, filter, find, nat_eq, nat_lt, slice_get}
use Rattle.std.specs.Prelude.{sum_by, ⊤}
use Rattle.std.specs.Int.{div_ceil}
use Rattle.std.proofs.Common.{◌≡◌, ◌⊎◌, inl, inr, ℕ, zero, suc, ◌+◌, ◌*◌, ◌/◌, ◌<◌, ◌≤◌, Bool}
use Rattle.std.proofs.Common.{true, false, cond, List, [], ◌∷◌, length, refl, sym, ◌∙◌}
use Rattle.std.proofs.Common.{subst, arith, Option, Some, None}
use Rattle.std.proofs.lemmas.Bool.{cases_lt, eq-eqb}
use Rattle.std.proofs.lemmas.Bool.Decides.{nat_tests}
use Rattle.std.proofs.lemmas.Grind.{div_ceil_times}
use Rattle.std.proofs.lemmas.List.Elements.{All-filter, All-head, All-tail}
use Rattle.std.proofs.lemmas.List.Sums.{sum_by-cons}
use Rattle.std.proofs.Math.Dec.{eqb}
use Rattle.dta_model.specs.LinkTimes.{Visit, bucket_time, mean_time, penalty_to}
use Rattle.dta_model.specs.LinkTimes.{table_in}
use Rattle.dta_model.specs.LinkTimes.{table_of, time_at, visit, visit_time, visits, visits_in}
use Rattle.dta_model.specs.Loading.{trace_after}
use Rattle.dta_model.specs.Plans.{link_at}
use Rattle.dta_model.specs.Sound.{IsSound}
use Rattle.dta_model.specs.Trace.{Move, Onto, is_of, leads_to}
use Rattle.dta_model.specs.Trace.{moves_of}
use Rattle.dta_model.specs.declared.plan.Plan.{Plan}
use Rattle.dta_model.proofs.Onward.{onto_one}
use Rattle.link_times.proofs.Links.{steps_at}
use Rattle.link_times.proofs.Places.{product_le}
use Rattle.traffic_laws.proofs.BucketTimes.{mean_least, time_is}
use Rattle.traffic_laws.proofs.ExactMoves.{exact_last, exact_next}
use Rattle.traffic_laws.specs.FreeFlow.{NothingBinds, TimesAreFree}

module _ (p : Plan) (sound : IsSound p) (binds : NothingBinds p (λ l. 0)) where
  -- moves of one vehicle, each in the step in which it is ready
  abbrev Exact : Option Move → List Move → Type 0
  Exact None [] = ⊤
  Exact (Some e) [] = (l : ℕ) → e.target ≡ Onto l → p.horizon ≤ e.step + (link_at p l).free
  Exact None (m ∷ M) = Exact (Some m) M
  Exact (Some e) (m ∷ M) =
      ((l : ℕ) → e.target ≡ Onto l
      → m.step ≡ e.step + (link_at p l).free + penalty_to p l m.target) × Exact (Some m) M

  exact_from : (x : Move) (L : List Move)
      → ((j l : ℕ) (a b : Move) → slice_get (x ∷ L) j ≡ Some a → slice_get (x ∷ L) (suc j) ≡ Some b
      → a.target ≡ Onto l → b.step ≡ a.step + (link_at p l).free + penalty_to p l b.target)
      → ((l : ℕ) (e : Move) → last_or (Some x) L ≡ Some e → e.target ≡ Onto l
      → p.horizon ≤ e.step + (link_at p l).free)
      → Exact (Some x) L
  exact_from x [] next last = λ l on. last l x refl on
  exact_from x (y ∷ L) next last = (
    λ l on. next 0 l x y refl refl on,
    exact_from y L (λ j l a b e f on. next (suc j) l a b e f on) last,
  )

  exact_list : (L : List Move)
      → ((j l : ℕ) (a b : Move) → slice_get L j ≡ Some a → slice_get L (suc j) ≡ Some b
      → a.target ≡ Onto l → b.step ≡ a.step + (link_at p l).free + penalty_to p l b.target)
      → ((l : ℕ) (e : Move) → last_or None L ≡ Some e → e.target ≡ Onto l
      → p.horizon ≤ e.step + (link_at p l).free)
      → Exact None L
  exact_list [] next last = tt
  exact_list (x ∷ L) next last = exact_from x L next last

  all_exact : (v : ℕ) → Exact None (moves_of v (trace_after p p.horizon))
  all_exact v =
      exact_list (moves_of v (trace_after p p.horizon)) (exact_next p sound (λ l. 0) binds v)
      (λ l e last on. let k = exact_last p sound (λ l. 0) binds v l e last on in omega (arith, k))

  first_time : (l w : ℕ) (m : Move) (L : List Move) → m.target ≡ Onto l
      → Exact (Some m) (moves_of w L)
      → visit_time p l m.step (find (is_of w) L) ≡ (link_at p l).free
  unfolding moves_of
  first_time l w m [] on s = let k = s l on in omega (arith, k)
  first_time l w m (x ∷ L) on s = by (eqb x.vehicle w) s (first_time l w m L on)
    where
      by : (b : Bool) → Exact (Some m) (cond b (x ∷ moves_of w L) (moves_of w L))
          → (Exact (Some m) (moves_of w L)
          → visit_time p l m.step (find (is_of w) L) ≡ (link_at p l).free)
          → visit_time p l m.step (cond b (Some x) (find (is_of w) L)) ≡ (link_at p l).free
      by true s ih =
          let k = s.0 l on in omega (arith, k)
      by false s ih = ih s

  exact_rest : (m : Move) (T : List Move) (v : ℕ) → Exact None (moves_of v (m ∷ T))
      → Exact None (moves_of v T)
  unfolding moves_of
  exact_rest m T v s = by (eqb m.vehicle v) s
    where
      weaker : (L : List Move) → Exact (Some m) L → Exact None L
      weaker [] s = tt
      weaker (x ∷ L) s = s.1

      by : (b : Bool) → Exact None (cond b (m ∷ moves_of v T) (moves_of v T))
          → Exact None (moves_of v T)
      by true s = weaker (moves_of v T) s
      by false s = s

  visit_free : (l : ℕ) (m : Move) (T : List Move) → leads_to l m ≡ true
      → Exact None (moves_of m.vehicle (m ∷ T)) → (visit p l m T).time ≡ (link_at p l).free
  unfolding moves_of
  visit_free l m T on s =
      first_time l m.vehicle m T (onto_one l m.target on)
      (subst (λ b. Exact None (cond b (m ∷ moves_of m.vehicle T) (moves_of m.vehicle T)))
      (eq-eqb m.vehicle m.vehicle refl) s)

  visits_free : (l : ℕ) (T : List Move) → ((v : ℕ) → Exact None (moves_of v T))
      → All (λ v. v.time ≡ (link_at p l).free) (visits p l T)
  unfolding visits
  visits_free l [] s i d h = absurd (omega (arith, h))
  visits_free l (m ∷ T) s i d h =
      by (leads_to l m) refl (visits_free l T (λ v. exact_rest m T v (s v))) i d h
    where
      by : (b : Bool) → b ≡ leads_to l m → All (λ v. v.time ≡ (link_at p l).free) (visits p l T)
          → All (λ v. v.time ≡ (link_at p l).free) (cond b (visit p l m T ∷ visits p l T)
          (visits p l T))
      by true e ih zero d h = visit_free l m T (sym e) (s m.vehicle)
      by true e ih (suc i) d h = ih i d (omega (arith, h))
      by false e ih i d h = ih i d h

  sum_free : (free : ℕ) (L : List Visit) → All (λ v. v.time ≡ free) L
      → sum_by (λ v. v.time) L ≡ free * length L
  sum_free free [] all = grind arith
  sum_free free (x ∷ L) all =
      let rest = sum_free free L (All-tail (λ v. v.time ≡ free) x L all) in
      let here = All-head (λ v. v.time ≡ free) x L all in
      let more = sum_by-cons (λ v. v.time) x L in
      grown (length L) (sum_by (λ v. v.time) L) (sum_by (λ v. v.time) (x ∷ L)) x.time rest here more
    where
      grown : (n s t a : ℕ) → s ≡ free * n → a ≡ free → t ≡ a + s → t ≡ free * suc n
      grown n s t a r h m = grind arith

  mean_most : (free total n : ℕ) → total ≡ free * n → mean_time free total n ≤ free
  mean_most free total zero h = omega arith
  mean_most free total (suc n) h =
      let c = (div_ceil_times total (suc n) (omega arith)).1 in
      by (cases_lt free (div_ceil total (suc n))) (div_ceil total (suc n)) refl c
    where
      by : (free < div_ceil total (suc n)) ⊎ (div_ceil total (suc n) ≤ free) → (d : ℕ)
          → d ≡ div_ceil total (suc n) → d * suc n < total + suc n → div_ceil total (suc n) ≤ free
      by (inr k) d e c = k
      by (inl k) d e c =
          let a = product_le (free + 1) d (suc n) (omega (arith, k, e)) in
          let b : (free + 1) * suc n ≡ free * suc n + suc n = grind arith in
          absurd (omega (arith, a, b, c, h))

  bucket_free : (bucket l b : ℕ)
      → bucket_time (link_at p l).free (visits_in p bucket l b (trace_after p p.horizon))
      ≡ (link_at p l).free
  unfolding visits_in
  bucket_free bucket l b =
      let T = trace_after p p.horizon in
      let L = filter (λ (v : Visit). nat_eq (v.entry / bucket) b) (visits p l T) in
      let sum = sum_free (link_at p l).free L (All-filter (λ v. nat_eq (v.entry / bucket) b)
      (λ (v : Visit). v.time ≡ (link_at p l).free) (visits p l T) (visits_free l T all_exact)) in
      let low = mean_least (link_at p l).free (sum_by (λ v. v.time) L) (length L)
      (omega (arith, sum)) in
      let high = mean_most (link_at p l).free (sum_by (λ v. v.time) L) (length L) sum in
      omega (arith, low, high)

pub times_are_free : TimesAreFree
unfolding time_at table_in
times_are_free p sound binds bucket l step some h = by (cases_lt step p.horizon)
  where
    by : (step < p.horizon) ⊎ (p.horizon ≤ step)
        → time_at (table_of p bucket) l step ≡ (link_at p l).free
    by (inl early) =
        time_is p bucket l step some h early ∙ bucket_free p sound binds bucket l (step / bucket)
    by (inr late) =
        let test : nat_lt step p.horizon ≡ false = grind (arith, nat_tests) in
        rw test (steps_at p.net l h)
