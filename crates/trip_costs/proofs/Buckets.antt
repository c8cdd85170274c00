-- Numbers by steps that rise within each bucket.
use Rattle.std.specs.Prelude.{max, min, slice_index}
use Rattle.std.proofs.Common.{◌≡◌, ◌⊎◌, inl, inr, ℕ, zero, suc, ◌+◌, ◌-◌, ◌*◌, ◌/◌, ◌<◌, ◌≤◌, ◌^◌, cond, List, ◌∷◌, [], ◌++◌, length, refl, arith, ap, sym, ◌∙◌, subst, get_or}
use Rattle.std.proofs.lemmas.Bool.{cases_lt}
use Rattle.std.proofs.lemmas.Grind.{div_ceil_times}
use Rattle.std.proofs.lemmas.List.{get_or_append_left, length-append}
use Rattle.std.proofs.lemmas.Nat.{div-add-mod', le-div, mod_below}
use Rattle.std.proofs.Math.Nat.{div-mul-le_self, div-eq_of_lt-le}
use Rattle.net_core.proofs.Orders.{is_lt}
use Rattle.dta_model.specs.LinkTimes.{TimeTable, bucket_count, buckets_to, place_in, time_at}
use Rattle.dta_model.specs.declared.loading.TheConstants.{MOST_HORIZON}
use Rattle.link_times.specs.TimeTables.{IsShort}
use Rattle.link_times.proofs.Places.{place_inside, place_tells, product_le}
use Rattle.trip_costs.specs.Greatest.{greatest_to}
use Rattle.trip_costs.specs.Latest.{latest_before}
use Rattle.trip_costs.specs.Numbers.{AreNumbers}
use Rattle.trip_costs.specs.TripCosts.{IsLevelBy, after_time, exit_step, steps_by_trips}
use Rattle.trip_costs.proofs.Rising.{greatest_least, greatest_most, greatest_rises}
use Rattle.trip_costs.proofs.Agreeing.{exits_then, free_then}

-- a step is not before its bucket, and before the next
pub bucket_begins : (bucket s : ℕ) → s / bucket * bucket ≤ s
bucket_begins bucket s = div-mul-le_self s bucket

below : (bucket s : ℕ) → 1 ≤ bucket → s < s / bucket * bucket + bucket
below bucket s some = let a = div-add-mod' s bucket in let b = mod_below s bucket some in omega (arith, a, b)

pub bucket_same : (bucket r s b : ℕ) → 1 ≤ bucket → r ≤ s → s / bucket ≡ b → b * bucket ≤ r → r / bucket ≡ b
bucket_same bucket r s b some h e k =
    let low = le-div b r bucket some k in
    let a = bucket_begins bucket r in
    let most : r / bucket ≤ b = subst (λ n. r / bucket ≤ n) e (le-div (r / bucket) s bucket some (omega (arith, a, h))) in
    omega (arith, low, most)

-- a number that rises within buckets is the greatest of its bucket
module _ (f : ℕ → ℕ) (bucket : ℕ) (some : 1 ≤ bucket) (rises : (r s : ℕ) → r ≤ s → r / bucket ≡ s / bucket → f r ≤ f s) where
  earlier : (b r : ℕ) → r < b * bucket → f r ≤ latest_before f bucket b
  unfolding latest_before
  earlier zero r h = absurd (omega (arith, h))
  earlier (suc b) r h = greatest_least f (suc b * bucket - 1) r (omega (arith, h))

  latest_most : (b s : ℕ) → b * bucket ≤ s → latest_before f bucket b ≤ greatest_to f s
  unfolding latest_before
  latest_most zero s h = omega arith
  latest_most (suc b) s h = greatest_rises f (suc b * bucket - 1) s (omega (arith, h))

  pub greatest_in : (s b : ℕ) → s / bucket ≡ b → greatest_to f s ≡ max (latest_before f bucket b) (f s)
  greatest_in s b e =
      let low = latest_most b s (subst (λ n. n * bucket ≤ s) e (bucket_begins bucket s)) in
      let own = greatest_least f s s (omega arith) in
      let most = greatest_most f s (max (latest_before f bucket b) (f s)) each in
      omega (arith, low, own, most)
    where
      each : (r : ℕ) → r ≤ s → f r ≤ max (latest_before f bucket b) (f s)
      each r h = by (cases_lt r (b * bucket))
        where
          by : (r < b * bucket) ⊎ (b * bucket ≤ r) → f r ≤ max (latest_before f bucket b) (f s)
          by (inl k) = let a = earlier b r k in omega (arith, a)
          by (inr k) = let a = rises r s h (bucket_same bucket r s b some h e k ∙ sym e) in omega (arith, a)

  -- the latest before a bucket, by that before the bucket before it
  pub latest_next : (b : ℕ) → latest_before f bucket (suc b) ≡ max (latest_before f bucket b) (f (suc b * bucket - 1))
  unfolding latest_before
  latest_next b = greatest_in (suc b * bucket - 1) b (div-eq_of_lt-le bucket low high)
    where
      wide : suc b * bucket ≡ b * bucket + bucket
      wide = grind arith

      low : b * bucket ≤ suc b * bucket - 1
      low = omega (arith, wide, some)

      high : suc b * bucket - 1 < (b + 1) * bucket
      high = let e : (b + 1) * bucket ≡ b * bucket + bucket = grind arith in omega (arith, wide, e, some)

-- ---- exits
pub time_same : (t : TimeTable) (l r s : ℕ) → s < t.horizon → r ≤ s → r / t.bucket ≡ s / t.bucket → time_at t l r ≡ time_at t l s
unfolding time_at
time_same t l r s early h e =
    ap (λ b. cond b (slice_index t.times (place_in (bucket_count t) l (r / t.bucket))) (slice_index t.free l)) (is_lt r t.horizon (omega (arith, h, early)))
    ∙ ap (λ b. slice_index t.times (place_in (bucket_count t) l b)) e
    ∙ sym (ap (λ b. cond b (slice_index t.times (place_in (bucket_count t) l (s / t.bucket))) (slice_index t.free l)) (is_lt s t.horizon early))

time_rises : (t : TimeTable) (l r s : ℕ) → r ≤ s → r / t.bucket ≡ s / t.bucket → after_time t l r ≤ after_time t l s
time_rises t l r s h e = by (cases_lt s t.horizon)
  where
    by : (s < t.horizon) ⊎ (t.horizon ≤ s) → after_time t l r ≤ after_time t l s
    by (inl k) = let a = time_same t l r s k h e in omega (arith, a, h)
    by (inr k) = let a = free_then t l s k in omega (arith, a, h, k)

-- an exit by the latest of earlier buckets
pub exit_in : (t : TimeTable) (l s : ℕ) → 1 ≤ t.bucket → exit_step t l s ≡ max (latest_before (after_time t l) t.bucket (s / t.bucket)) (after_time t l s)
unfolding exit_step
exit_in t l s some = greatest_in (after_time t l) t.bucket some (time_rises t l) s (s / t.bucket) refl

-- in a bucket a link takes the steps of its first, where nobody who entered earlier leaves later,
-- and nobody is kept from leaving past the horizon
level_in : (t : TimeTable) (l b s time : ℕ) → 1 ≤ t.bucket → s < t.horizon → s / t.bucket ≡ b → time ≡ time_at t l (b * t.bucket)
    → latest_before (after_time t l) t.bucket b ≤ b * t.bucket + time
    → (time ≤ slice_index t.free l) ⊎ (min (b * t.bucket + t.bucket) t.horizon + time ≤ t.horizon + 1)
    → steps_by_trips t l s ≡ time
level_in t l b s time some early e is late short = by short
  where
    begins : b * t.bucket ≤ s
    begins = subst (λ n. n * t.bucket ≤ s) e (bucket_begins t.bucket s)

    ends : s < b * t.bucket + t.bucket
    ends = subst (λ n. s < n * t.bucket + t.bucket) e (below t.bucket s some)

    first : b * t.bucket / t.bucket ≡ b
    first = bucket_same t.bucket (b * t.bucket) s b some begins e (omega arith)

    here : time_at t l s ≡ time
    here = sym (is ∙ time_same t l (b * t.bucket) s early begins (first ∙ sym e))

    exit : exit_step t l s ≡ max (latest_before (after_time t l) t.bucket b) (after_time t l s)
    exit = exit_in t l s some ∙ ap (λ n. max (latest_before (after_time t l) t.bucket n) (after_time t l s)) e

    by : (time ≤ slice_index t.free l) ⊎ (min (b * t.bucket + t.bucket) t.horizon + time ≤ t.horizon + 1) → steps_by_trips t l s ≡ time
    by (inl h) = omega (arith, begins, here, exit, late, h)
    by (inr h) = omega (arith, begins, ends, early, here, exit, late, h)

-- so it is level there, as it is told by what is read of its times
pub level_read : (t : TimeTable) (l b steps horizon free time late : ℕ) → steps ≡ t.bucket → 1 ≤ steps → horizon ≡ t.horizon → free ≡ time_at t l horizon → time ≡ time_at t l (b * steps)
    → late ≡ latest_before (after_time t l) t.bucket b → late ≤ b * steps + time → (time ≤ free) ⊎ (min (b * steps + steps) horizon + time ≤ horizon + 1)
    → IsLevelBy (steps_by_trips t) t l b
level_read t l b steps horizon free time late same some end at_end is latest early short r s hr hs er es = takes r hr er ∙ sym (takes s hs es)
  where
    first : b * steps ≡ b * t.bucket
    first = ap (λ n. b * n) same

    ends : (time ≤ free) ⊎ (min (b * steps + steps) horizon + time ≤ horizon + 1) → (time ≤ slice_index t.free l) ⊎ (min (b * t.bucket + t.bucket) t.horizon + time ≤ t.horizon + 1)
    ends (inl h) = let f = free_then t l horizon (omega (arith, end)) in inl (omega (arith, h, f, at_end))
    ends (inr h) = inr (omega (arith, h, first, same, end))

    takes : (s : ℕ) → s < t.horizon → s / t.bucket ≡ b → steps_by_trips t l s ≡ time
    takes s h e = level_in t l b s time (omega (arith, same, some)) h e (is ∙ ap (λ n. time_at t l n) first) (omega (arith, latest, early, first)) (ends short)

pub exit_past : (t : TimeTable) (l s : ℕ) → t.horizon ≤ s → exit_step t l s ≡ after_time t l s
exit_past t l s h = let a = exits_then t l s h in let b = free_then t l s h in omega (arith, a, b, h)

pub time_next : (t : TimeTable) (l b : ℕ) → 1 ≤ t.bucket → latest_before (after_time t l) t.bucket (suc b) ≡ max (latest_before (after_time t l) t.bucket b) (after_time t l (suc b * t.bucket - 1))
time_next t l b some = latest_next (after_time t l) t.bucket some (time_rises t l) b

pub latest_is : (t : TimeTable) (l b before own : ℕ) → 1 ≤ t.bucket → 1 ≤ b → before ≡ latest_before (after_time t l) t.bucket (b - 1) → own ≡ after_time t l (b * t.bucket - 1) → max before own ≡ latest_before (after_time t l) t.bucket b
latest_is t l zero before own some h e f = absurd (omega (arith, h))
latest_is t l (suc b) before own some h e f =
    let p : before ≡ latest_before (after_time t l) t.bucket b = e ∙ ap (λ n. latest_before (after_time t l) t.bucket n) (less b) in
    let n = time_next t l b some in
    omega (arith, p, f, n)
  where
    less : (b : ℕ) → suc b - 1 ≡ b
    less b = omega arith

pub latest_none : (t : TimeTable) (l b : ℕ) → b ≡ 0 → 0 ≡ latest_before (after_time t l) t.bucket b
unfolding latest_before
latest_none t l b e = sym (ap (λ n. latest_before (after_time t l) t.bucket n) e)

-- an exit in a short table is of 32 bits
pub own_few : (t : TimeTable) (l s x : ℕ) → IsShort t → l < length t.free → t.horizon ≤ MOST_HORIZON → s ≤ t.horizon → x ≡ after_time t l s → x < 2 ^ 32
own_few t l s x short h k e is = let a = short.free l 0 h in omega (arith, a, k, e, is)

-- a bucket that isn't the first begins before the horizon
pub begins_early : (bucket horizon b : ℕ) → 1 ≤ bucket → b < buckets_to bucket horizon → b * bucket < horizon
begins_early bucket horizon b some h =
    by (cases_lt (b * bucket) horizon)
  where
    by : (b * bucket < horizon) ⊎ (horizon ≤ b * bucket) → b * bucket < horizon
    by (inl k) = k
    by (inr k) =
        let a = (div_ceil_times horizon bucket some).1 in
        let c = product_le (b + 1) (buckets_to bucket horizon) bucket (omega (arith, h)) in
        let e : (b + 1) * bucket ≡ b * bucket + bucket = grind arith in
        absurd (omega (arith, a, c, e, k))

-- one number more
pub number_more : (number : ℕ → ℕ → ℕ) (buckets l b x : ℕ) (xs ys : List ℕ) → b < buckets → AreNumbers number buckets (place_in buckets l b) xs → x ≡ number l b → ys ≡ xs ++ x ∷ [] → AreNumbers number buckets (place_in buckets l b + 1) ys
number_more number buckets l b x xs ys inside are e added = record {
  many = ap (λ zs. length zs) added ∙ length-append xs (x ∷ []) ∙ ap (λ n. n + 1) are.many;
  each = λ k c hc h. by k c hc h (cases_lt (place_in buckets k c) (place_in buckets l b));
}
  where
    last : (zs : List ℕ) → get_or (zs ++ x ∷ []) (length zs) 0 ≡ x
    last [] = refl
    last (z ∷ zs) = last zs

    by : (k c : ℕ) → c < buckets → place_in buckets k c < place_in buckets l b + 1
        → (place_in buckets k c < place_in buckets l b) ⊎ (place_in buckets l b ≤ place_in buckets k c)
        → get_or ys (place_in buckets k c) 0 ≡ number k c
    by k c hc h (inl low) =
        ap (λ zs. get_or zs (place_in buckets k c) 0) added
        ∙ get_or_append_left xs (x ∷ []) 0 (place_in buckets k c) (let m = are.many in omega (arith, low, m))
        ∙ are.each k c hc low
    by k c hc h (inr high) =
        let place : place_in buckets k c ≡ place_in buckets l b = omega (arith, h, high) in
        let same = place_tells buckets k c l b hc inside place in
        ap (λ zs. get_or zs (place_in buckets k c) 0) added
        ∙ ap (λ n. get_or (xs ++ x ∷ []) n 0) (place ∙ sym are.many)
        ∙ last xs
        ∙ e ∙ ap (λ n. number n b) (sym same.0) ∙ ap (λ n. number k n) (sym same.1)

-- before the first number
pub number_first : (number : ℕ → ℕ → ℕ) (buckets count : ℕ) → count ≡ 0 → AreNumbers number buckets count []
number_first number buckets count e = record { many = sym e; each = λ l b hb h. absurd (omega (arith, e, h)) }

-- the number of a bucket, where it is read
pub number_read : (number : ℕ → ℕ → ℕ) (links buckets l b d place : ℕ) (xs : List ℕ) → l < links → b < buckets → place ≡ place_in buckets l b → AreNumbers number buckets (links * buckets) xs
    → (place < length xs) × (get_or xs place d ≡ number l b)
number_read number links buckets l b d place xs h i at are =
    let in_all = place_inside links buckets l b h i in
    let there : place < length xs = subst (λ n. n < length xs) (sym at) (subst (λ n. place_in buckets l b < n) (sym are.many) in_all) in
    (there, default_is xs place d there ∙ ap (λ n. get_or xs n 0) at ∙ are.each l b i in_all)
  where
    default_is : (zs : List ℕ) (q e : ℕ) → q < length zs → get_or zs q e ≡ get_or zs q 0
    default_is [] q e k = absurd (omega (arith, k))
    default_is (z ∷ zs) zero e k = refl
    default_is (z ∷ zs) (suc q) e k = default_is zs q e (omega (arith, k))
