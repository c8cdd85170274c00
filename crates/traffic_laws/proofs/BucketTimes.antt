-- Link times are never below free flow, and numbers entered are counts of moves.
use Rattle.std.specs.Prelude.{All, count_by, filter, find, nat_eq, nat_le, nat_lt}
use Rattle.std.specs.Prelude.{sum_by, ◌≢◌}
use Rattle.std.specs.Int.{div_ceil}
use Rattle.std.proofs.Common.{◌≡◌, ◌⊎◌, inl, inr, ℕ, zero, suc, ◌+◌, ◌*◌, ◌/◌, ◌<◌, ◌≤◌, Bool}
use Rattle.std.proofs.Common.{true, false, cond, ◌&&◌, List, [], ◌∷◌, length, refl, ap, sym}
use Rattle.std.proofs.Common.{◌∙◌, subst, arith, Option, Some, None}
use Rattle.std.proofs.lemmas.Bool.{cases_lt, eq-eqb}
use Rattle.std.proofs.lemmas.Bool.Decides.{eqb_tells, nat_tests}
use Rattle.std.proofs.lemmas.Grind.{div_ceil_times}
use Rattle.std.proofs.lemmas.List.Elements.{All-filter, All-head, All-tail}
use Rattle.std.proofs.lemmas.List.Sums.{sum_by-cons}
use Rattle.std.proofs.lemmas.Option.{same_Some}
use Rattle.std.proofs.Math.Dec.{eqb}
use Rattle.std.proofs.Math.Nat.{div-mul-le_self, mod-add-div, mod-lt}
use Rattle.dta_model.specs.LinkTimes.{Visit, bucket_time, buckets_to, entered_in}
use Rattle.dta_model.specs.LinkTimes.{mean_time, table_in, table_of, time_at, visit}
use Rattle.dta_model.specs.LinkTimes.{visit_time, visits, visits_in}
use Rattle.dta_model.specs.Loading.{trace_after}
use Rattle.dta_model.specs.Plans.{link_at}
use Rattle.dta_model.specs.Trace.{Move, Onto, is_of, leads_to, moves_of}
use Rattle.dta_model.specs.declared.plan.Plan.{Plan}
use Rattle.dta_model.proofs.Onward.{onto_one}
use Rattle.link_times.proofs.Links.{steps_at}
use Rattle.link_times.proofs.Places.{bucket_inside, by_bucket-get, product_le}
use Rattle.link_times.proofs.Sums.{sum_in, sum_in-more, sum_in-none}
use Rattle.link_times.proofs.Tabled.{ones}
use Rattle.link_times.proofs.TravelTimes.{Lasts, Spaced, moves_are_spaced}
use Rattle.traffic_laws.proofs.Counts.{count-cons, one_if}
use Rattle.traffic_laws.specs.Buckets.{EnteredAreCounted, TimesAreNotBelowFree, enters_in}

-- the vehicle's next move after one of its moves, among its own
next_spaced : (p : Plan) (m next : Move) (T : List Move)
    → Spaced p None (moves_of m.vehicle (m ∷ T))
    → find (is_of m.vehicle) T ≡ Some next → Lasts p m next
unfolding moves_of
next_spaced p m next T s e =
    first_of_own T e (subst (λ b. Spaced p None (cond b (m ∷ moves_of m.vehicle T)
    (moves_of m.vehicle T))) (eq-eqb m.vehicle m.vehicle refl) s)
  where
    first_of_own : (L : List Move) → find (is_of m.vehicle) L ≡ Some next
        → Spaced p (Some m) (moves_of m.vehicle L) → Lasts p m next
    first_of_own [] e s = cc
    first_of_own (x ∷ L) e s = by (eqb x.vehicle m.vehicle) e s (first_of_own L)
      where
        by : (b : Bool) → cond b (Some x) (find (is_of m.vehicle) L) ≡ Some next
            → Spaced p (Some m) (cond b (x ∷ moves_of m.vehicle L) (moves_of m.vehicle L))
            → (find (is_of m.vehicle) L ≡ Some next → Spaced p (Some m) (moves_of m.vehicle L)
            → Lasts p m next) → Lasts p m next
        by true e s ih = subst (λ y. Lasts p m y) (same_Some x next e) s.0
        by false e s ih = ih e s

-- where a vehicle's moves are spaced they are without the first move of a trace too
spaced_rest : (p : Plan) (m : Move) (T : List Move) (v : ℕ)
    → Spaced p None (moves_of v (m ∷ T)) → Spaced p None (moves_of v T)
unfolding moves_of
spaced_rest p m T v s = by (eqb m.vehicle v) s
  where
    weaker : (L : List Move) → Spaced p (Some m) L → Spaced p None L
    weaker [] s = tt
    weaker (x ∷ L) s = s.1

    by : (b : Bool) → Spaced p None (cond b (m ∷ moves_of v T) (moves_of v T))
        → Spaced p None (moves_of v T)
    by true s = weaker (moves_of v T) s
    by false s = s

-- each visit takes the free-flow steps at least
visit_least : (p : Plan) (l : ℕ) (m : Move) (T : List Move) → leads_to l m ≡ true
    → Spaced p None (moves_of m.vehicle (m ∷ T)) → (link_at p l).free ≤ (visit p l m T).time
visit_least p l m T on s = by (find (is_of m.vehicle) T) refl
  where
    target : m.target ≡ Onto l
    target = onto_one l m.target on

    by : (o : Option Move) → find (is_of m.vehicle) T ≡ o
        → (link_at p l).free ≤ visit_time p l m.step o
    by None e = omega arith
    by (Some next) e = far next m.target target (next_spaced p m next T s e)
      where
        far : (next : Move) (x : _) → x ≡ Onto l → Lasts p (record m { target = x }) next
            → (link_at p l).free ≤ visit_time p l m.step (Some next)
        far next x q lasts =
            let k = subst (λ y. Lasts p (record m { target = y }) next) q lasts in
            omega (arith, k)

visits_least : (p : Plan) (l : ℕ) (T : List Move) → ((v : ℕ) → Spaced p None (moves_of v T))
    → All (λ v. (link_at p l).free ≤ v.time) (visits p l T)
unfolding visits
visits_least p l [] s i d h = absurd (omega (arith, h))
visits_least p l (m ∷ T) s i d h =
    by (leads_to l m) refl (visits_least p l T (λ v. spaced_rest p m T v (s v))) i d h
  where
    by : (b : Bool) → b ≡ leads_to l m → All (λ v. (link_at p l).free ≤ v.time) (visits p l T)
        → All (λ v. (link_at p l).free ≤ v.time) (cond b (visit p l m T ∷ visits p l T)
        (visits p l T))
    by true e ih zero d h = visit_least p l m T (sym e) (s m.vehicle)
    by true e ih (suc i) d h = ih i d (omega (arith, h))
    by false e ih i d h = ih i d h

sum_least : (free : ℕ) (L : List Visit) → All (λ v. free ≤ v.time) L
    → free * length L ≤ sum_by (λ v. v.time) L
sum_least free [] all = grind arith
sum_least free (x ∷ L) all =
    let rest = sum_least free L (All-tail (λ v. free ≤ v.time) x L all) in
    let here = All-head (λ v. free ≤ v.time) x L all in
    let more = sum_by-cons (λ v. v.time) x L in
    grown (length L) (sum_by (λ v. v.time) L) (sum_by (λ v. v.time) (x ∷ L)) x.time rest here more
  where
    grown : (n s t a : ℕ) → free * n ≤ s → free ≤ a → t ≡ a + s → free * suc n ≤ t
    grown n s t a r h m = grind arith

-- a mean that is rounded up is no less than what each is
pub mean_least : (free : ℕ) (total n : ℕ) → free * n ≤ total → free ≤ mean_time free total n
mean_least free total zero h = omega arith
mean_least free total (suc n) h =
    let c = (div_ceil_times total (suc n) (omega arith)).0 in
    by (cases_lt (div_ceil total (suc n)) free) (div_ceil total (suc n)) refl c
  where
    by : (div_ceil total (suc n) < free) ⊎ (free ≤ div_ceil total (suc n)) → (d : ℕ)
        → d ≡ div_ceil total (suc n) → total ≤ d * suc n → free ≤ div_ceil total (suc n)
    by (inr k) d e c = k
    by (inl k) d e c = absurd (less d (omega (arith, k, e)) c)
      where
        less : (d : ℕ) → d < free → total ≤ d * suc n → ⊥
        less d k c =
            let a : (d + 1) * suc n ≤ free * suc n = grind arith in
            let b : (d + 1) * suc n ≡ d * suc n + suc n = grind arith in
            omega (arith, a, b, c, h)

bucket_least : (p : Plan) (bucket l b : ℕ)
    → (link_at p l).free
    ≤ bucket_time (link_at p l).free (visits_in p bucket l b (trace_after p p.horizon))
unfolding visits_in
bucket_least p bucket l b =
    let T = trace_after p p.horizon in
    let L = filter (λ (v : Visit). nat_eq (v.entry / bucket) b) (visits p l T) in
    mean_least (link_at p l).free (sum_by (λ v. v.time) L) (length L)
    (sum_least (link_at p l).free L (All-filter (λ (v : Visit). nat_eq (v.entry / bucket) b)
    (λ v. (link_at p l).free ≤ v.time) (visits p l T)
    (visits_least p l T (λ v. moves_are_spaced p p.horizon v))))

-- before the horizon a link time is that of the step's bucket
pub time_is : (p : Plan) (bucket l step : ℕ) → 1 ≤ bucket → l < length p.net.links
    → step < p.horizon
    → time_at (table_of p bucket) l step
    ≡ bucket_time (link_at p l).free
    (visits_in p bucket l (step / bucket) (trace_after p p.horizon))
unfolding time_at table_in
time_is p bucket l step some h early =
    let test : nat_lt step p.horizon ≡ true = grind (arith, nat_tests) in
    rw test (by_bucket-get (length p.net.links) (buckets_to bucket p.horizon)
    (λ l b. bucket_time (link_at p l).free (visits_in p bucket l b (trace_after p p.horizon)))
    l (step / bucket) h (bucket_inside bucket p.horizon step some early))

pub times_are_not_below_free : TimesAreNotBelowFree
unfolding time_at table_in
times_are_not_below_free p bucket l step some h = by (cases_lt step p.horizon)
  where
    by : (step < p.horizon) ⊎ (p.horizon ≤ step)
        → (link_at p l).free ≤ time_at (table_of p bucket) l step
    by (inl early) =
        let is = time_is p bucket l step some h early in
        let low = bucket_least p bucket l (step / bucket) in
        omega (arith, is, low)
    by (inr late) =
        let test : nat_lt step p.horizon ≡ false = grind (arith, nat_tests) in
        let at = steps_at p.net l h in
        rw test (omega (arith, at))

-- ---- the numbers entered
-- a step is in a bucket exactly where it is from the bucket's first step on and below the next
in_bucket : (bucket b step : ℕ) → 1 ≤ bucket
    → nat_eq (step / bucket) b ≡ (nat_le (b * bucket) step && nat_lt step (suc b * bucket))
in_bucket bucket b step some =
    by (eqb_tells (step / bucket) b) (step / bucket) refl low high
  where
    low : step / bucket * bucket ≤ step
    low = div-mul-le_self step bucket

    high : step < suc (step / bucket) * bucket
    high =
        let rest = mod-lt step some in
        let whole = mod-add-div step bucket in
        let turned : bucket * (step / bucket) ≡ step / bucket * bucket = grind arith in
        let more : suc (step / bucket) * bucket ≡ step / bucket * bucket + bucket = grind arith in
        omega (arith, rest, whole, turned, more)

    before : (q : ℕ) → q < b → step < suc q * bucket → nat_le (b * bucket) step ≡ false
    before q less h =
        let k = product_le (suc q) b bucket (omega (arith, less)) in
        grind (arith, nat_tests)

    behind : (q : ℕ) → b < q → q * bucket ≤ step → nat_lt step (suc b * bucket) ≡ false
    behind q less h =
        let k = product_le (suc b) q bucket (omega (arith, less)) in
        grind (arith, nat_tests)

    and_false : (c : Bool) → false ≡ (c && false)
    and_false true = refl
    and_false false = refl

    apart : (q : ℕ) → q ≢ b → (q < b) ⊎ (b ≤ q) → q * bucket ≤ step → step < suc q * bucket
        → false ≡ (nat_le (b * bucket) step && nat_lt step (suc b * bucket))
    apart q other (inl less) l h = rw (before q less h) refl
    apart q other (inr more) l h = rw (behind q (above q b other more) l) (and_false _)
      where
        above : (x y : ℕ) → x ≢ y → y ≤ x → y < x
        above x y n k = grind arith

    by : ((eqb (step / bucket) b ≡ true) × (step / bucket ≡ b))
        ⊎ ((eqb (step / bucket) b ≡ false) × (step / bucket ≢ b)) → (q : ℕ) → q ≡ step / bucket
        → step / bucket * bucket ≤ step → step < suc (step / bucket) * bucket
        → nat_eq (step / bucket) b ≡ (nat_le (b * bucket) step && nat_lt step (suc b * bucket))
    by (inl (t, same)) q e l h =
        let lower : b * bucket ≤ step = subst (λ x. x * bucket ≤ step) same l in
        let upper : step < suc b * bucket = subst (λ x. step < suc x * bucket) same h in
        let one : nat_le (b * bucket) step ≡ true = grind (arith, nat_tests) in
        let two : nat_lt step (suc b * bucket) ≡ true = grind (arith, nat_tests) in
        rw (t, one, two) refl
    by (inr (t, other)) q e l h =
        rw t (apart (step / bucket) other (cases_lt (step / bucket) b) l h)

visits_many : (p : Plan) (bucket l b : ℕ) → 1 ≤ bucket → (T : List Move)
    → sum_in (λ v. 1) p bucket l b T ≡ count_by (enters_in bucket l b) T
visits_many p bucket l b some [] = sum_in-none (λ v. 1) p bucket l b
visits_many p bucket l b some (m ∷ T) =
    let more = sum_in-more (λ v. 1) p bucket l b m T in
    let counted = count-cons (enters_in bucket l b) m T in
    let rest = visits_many p bucket l b some T in
    let here = by (leads_to l m) (in_bucket bucket b m.step some) in
    omega (arith, more, counted, rest, here)
  where
    by : (on : Bool)
        → nat_eq (m.step / bucket) b
        ≡ (nat_le (b * bucket) m.step && nat_lt m.step (suc b * bucket))
        → cond on (one_if (nat_eq (m.step / bucket) b)) 0
        ≡ one_if (on && nat_le (b * bucket) m.step && nat_lt m.step (suc b * bucket))
    by true e = ap one_if e
    by false e = refl

-- a number entered counts the visits of the trace
pub entered_is : (p : Plan) (bucket l b : ℕ) → l < length p.net.links
    → b < buckets_to bucket p.horizon
    → entered_in (table_of p bucket) l b
    ≡ sum_in (λ v. 1) p bucket l b (trace_after p p.horizon)
unfolding entered_in table_in
entered_is p bucket l b hl hb =
    by_bucket-get (length p.net.links) (buckets_to bucket p.horizon)
    (λ l b. length (visits_in p bucket l b (trace_after p p.horizon))) l b hl hb
    ∙ sym (ones (visits_in p bucket l b (trace_after p p.horizon)))

pub entered_are_counted : EnteredAreCounted
entered_are_counted p bucket l b some hl hb =
    entered_is p bucket l b hl hb ∙ visits_many p bucket l b some (trace_after p p.horizon)
