-- Entries of first links by the numbers of a table.
use Rattle.std.specs.Prelude.{max, min}
use Rattle.std.proofs.Common.{◌≡◌, ◌⊎◌, inl, inr, ℕ, zero, suc, ◌+◌, ◌-◌, ◌*◌, ◌/◌, ◌<◌, ◌≤◌, cond, List, length, refl, arith, ap, sym, ◌∙◌, get_or}
use Rattle.std.proofs.lemmas.Bool.{cases_lt}
use Rattle.std.proofs.lemmas.List.{get_or_past}
use Rattle.std.proofs.Math.Nat.{div-eq_of_lt-le, lt-div-mul-add}
use Rattle.std.proofs.Math.Path.{fun_ext}
use Rattle.net_core.proofs.Orders.{is_lt, not_lt}
use Rattle.dta_model.specs.LinkTimes.{buckets_to, place_in}
use Rattle.link_times.proofs.Places.{bucket_inside, place_inside, product_le}
use Rattle.trip_costs.specs.Entries.{AreEntryNumbers, EntryTable, entry_among, entry_at, entry_before, entry_number, last_step, number_at, number_before, numbers_to, wait_in}
use Rattle.trip_costs.specs.Latest.{latest_before}
use Rattle.trip_costs.specs.OriginWaits.{WaitTable, wait_at}
use Rattle.trip_costs.specs.TripCosts.{after_wait, enter_step}
use Rattle.trip_costs.proofs.Agreeing.{entries_then, no_wait_then}
use Rattle.trip_costs.proofs.Buckets.{begins_early, greatest_in, latest_next}
use Rattle.trip_costs.proofs.Rising.{greatest_is, greatest_most}

-- a wait rises no entry within a bucket
wait_early : (w : WaitTable) (l s : ℕ) → s < w.horizon → wait_at w l s ≡ wait_in w l (s / w.bucket)
unfolding wait_at
wait_early w l s h = ap (λ b. cond b (wait_in w l (s / w.bucket)) 0) (is_lt s w.horizon h)

wait_same : (w : WaitTable) (l r s : ℕ) → s < w.horizon → r ≤ s → r / w.bucket ≡ s / w.bucket → wait_at w l r ≡ wait_at w l s
wait_same w l r s early h e =
    wait_early w l r (omega (arith, h, early)) ∙ ap (λ b. wait_in w l b) e ∙ sym (wait_early w l s early)

entry_rises : (w : WaitTable) (l r s : ℕ) → r ≤ s → r / w.bucket ≡ s / w.bucket → after_wait w l r ≤ after_wait w l s
entry_rises w l r s h e = by (cases_lt s w.horizon)
  where
    by : (s < w.horizon) ⊎ (w.horizon ≤ s) → after_wait w l r ≤ after_wait w l s
    by (inl k) = let a = wait_same w l r s k h e in omega (arith, a, h)
    by (inr k) = omega (arith, h, k)

enter_in : (w : WaitTable) (l s : ℕ) → 1 ≤ w.bucket → enter_step w l s ≡ max (entry_before w l (s / w.bucket)) (after_wait w l s)
unfolding enter_step entry_before
enter_in w l s some = greatest_in (after_wait w l) w.bucket some (entry_rises w l) s (s / w.bucket) refl

before_next : (w : WaitTable) (l b : ℕ) → 1 ≤ w.bucket → entry_before w l (suc b) ≡ max (entry_before w l b) (after_wait w l (suc b * w.bucket - 1))
unfolding entry_before
before_next w l b some = latest_next (after_wait w l) w.bucket some (entry_rises w l) b

pub before_first : (w : WaitTable) (l : ℕ) → 0 ≡ entry_before w l 0
unfolding entry_before latest_before
before_first w l = refl

before_most : (w : WaitTable) (l b : ℕ) → b * w.bucket ≤ w.horizon → entry_before w l b ≤ w.horizon
unfolding entry_before latest_before
before_most w l zero h = omega arith
before_most w l (suc b) h = greatest_most (after_wait w l) (suc b * w.bucket - 1) w.horizon (λ r k. omega (arith, h, k))

-- the last step of a bucket
last_in : (bucket b : ℕ) → 1 ≤ bucket → (suc b * bucket - 1) / bucket ≡ b
last_in bucket b some = div-eq_of_lt-le bucket low high
  where
    wide : suc b * bucket ≡ b * bucket + bucket
    wide = grind arith

    low : b * bucket ≤ suc b * bucket - 1
    low = omega (arith, wide, some)

    high : suc b * bucket - 1 < (b + 1) * bucket
    high = let e : (b + 1) * bucket ≡ b * bucket + bucket = grind arith in omega (arith, wide, e, some)

step_last : (bucket horizon s : ℕ) → 1 ≤ bucket → s < horizon → s ≤ last_step bucket horizon (s / bucket)
step_last bucket horizon s some h =
    let a : s < s / bucket * bucket + bucket = lt-div-mul-add some in
    omega (arith, a, wide (s / bucket), h)
  where
    wide : (n : ℕ) → suc n * bucket ≡ n * bucket + bucket
    wide n = grind arith

-- what a number says, as sums and greatest numbers alone
cut_is : (L X W V H next : ℕ) → 1 ≤ X → X ≤ H → L ≤ H → V ≡ W → next ≡ max L (max (X - 1) (min (X - 1 + V) H)) → min (max L (min X H - 1 + min W H)) H ≡ next
cut_is L X W V H next some h l e n = omega (arith, some, h, l, e, n)

among_is : (L s last W V before H number enter : ℕ) → s ≤ last → s < H → min before H ≡ L → V ≡ W → number ≡ max L (last + min W H) → enter ≡ max L (max s (min (s + V) H)) → max s (min (max before (s + number - last)) H) ≡ enter
among_is L s last W V before H number enter k h b e n is = omega (arith, k, h, b, e, n, is)

-- the number of a bucket tells the latest entry before the next
pub number_cut : (w : WaitTable) (l b : ℕ) → 1 ≤ w.bucket → suc b * w.bucket ≤ w.horizon → min (entry_number w l b) w.horizon ≡ entry_before w l (suc b)
unfolding entry_number
number_cut w l b some h =
    let wide : suc b * w.bucket ≡ b * w.bucket + w.bucket = grind arith in
    let wait : wait_at w l (suc b * w.bucket - 1) ≡ wait_in w l b = wait_early w l (suc b * w.bucket - 1) (omega (arith, wide, some, h)) ∙ ap (λ n. wait_in w l n) (last_in w.bucket b some) in
    cut_is (entry_before w l b) (suc b * w.bucket) (wait_in w l b) (wait_at w l (suc b * w.bucket - 1)) w.horizon (entry_before w l (suc b))
    (omega (arith, wide, some)) h (before_most w l b (omega (arith, wide, h))) wait (before_next w l b some)

-- an entry, by the number of its bucket and that of the bucket before
entry_is : (w : WaitTable) (l s before number : ℕ) → 1 ≤ w.bucket → s < w.horizon → min before w.horizon ≡ entry_before w l (s / w.bucket) → number ≡ entry_number w l (s / w.bucket) → entry_among w.horizon (last_step w.bucket w.horizon (s / w.bucket)) before number s ≡ enter_step w l s
unfolding entry_number
entry_is w l s before number some early eb en =
    among_is (entry_before w l (s / w.bucket)) s (last_step w.bucket w.horizon (s / w.bucket)) (wait_in w l (s / w.bucket)) (wait_at w l s) before w.horizon number (enter_step w l s)
    (step_last w.bucket w.horizon s some early) early eb (wait_early w l s early) en (enter_in w l s some)

-- ---- reading a table
pub entry_early : (e : EntryTable) (l s : ℕ) → s < e.horizon → entry_at e l s ≡ entry_among e.horizon (last_step e.bucket e.horizon (s / e.bucket)) (number_before e.numbers (numbers_to e) l (s / e.bucket)) (number_at e.numbers (numbers_to e) l (s / e.bucket)) s
unfolding entry_at
entry_early e l s h =
    ap (λ b. cond b (entry_among e.horizon (last_step e.bucket e.horizon (s / e.bucket)) (number_before e.numbers (numbers_to e) l (s / e.bucket)) (number_at e.numbers (numbers_to e) l (s / e.bucket)) s) s) (is_lt s e.horizon h)

pub entry_late : (e : EntryTable) (l s : ℕ) → e.horizon ≤ s → entry_at e l s ≡ s
unfolding entry_at
entry_late e l s h =
    ap (λ b. cond b (entry_among e.horizon (last_step e.bucket e.horizon (s / e.bucket)) (number_before e.numbers (numbers_to e) l (s / e.bucket)) (number_at e.numbers (numbers_to e) l (s / e.bucket)) s) s) (not_lt s e.horizon h)

pub among_told : (H last before number s l b n r : ℕ) → l ≡ last → b ≡ before → n ≡ number → r ≡ max (min (max (s + n - l) b) H) s → r ≡ entry_among H last before number s
among_told H last before number s l b n r el eb en er = omega (arith, el, eb, en, er)

module _ (w : WaitTable) (links : ℕ) (numbers : List ℕ) (some : 1 ≤ w.bucket) (size : length w.waits ≡ links * buckets_to w.bucket w.horizon) (are : AreEntryNumbers w (links * buckets_to w.bucket w.horizon) numbers) where
  at_place : (l b : ℕ) → l < links → b < buckets_to w.bucket w.horizon → number_at numbers (buckets_to w.bucket w.horizon) l b ≡ entry_number w l b
  at_place l b h i = are.each l b i (place_inside links (buckets_to w.bucket w.horizon) l b h i)

  before_is : (l b : ℕ) → l < links → b < buckets_to w.bucket w.horizon → min (number_before numbers (buckets_to w.bucket w.horizon) l b) w.horizon ≡ entry_before w l b
  before_is l zero h i = let a = before_first w l in omega (arith, a)
  before_is l (suc b) h i =
      let a = at_place l b h (omega (arith, i)) in
      let early = begins_early w.bucket w.horizon (suc b) some i in
      let c = number_cut w l b some (omega (arith, early)) in
      omega (arith, a, c)

  -- past the last link
  past : (xs : List ℕ) (l b : ℕ) → length xs ≡ links * buckets_to w.bucket w.horizon → links ≤ l → get_or xs (place_in (buckets_to w.bucket w.horizon) l b) 0 ≡ 0
  past xs l b long h =
      let a = product_le links l (buckets_to w.bucket w.horizon) h in
      get_or_past xs (place_in (buckets_to w.bucket w.horizon) l b) 0 (omega (arith, long, a))

  no_wait_past : (l s : ℕ) → links ≤ l → wait_at w l s ≡ 0
  no_wait_past l s h = by (cases_lt s w.horizon)
    where
      by : (s < w.horizon) ⊎ (w.horizon ≤ s) → wait_at w l s ≡ 0
      by (inl k) = wait_early w l s k ∙ past w.waits l (s / w.bucket) size h
      by (inr k) = no_wait_then w l s k

  enter_past : (l s : ℕ) → links ≤ l → enter_step w l s ≡ s
  unfolding enter_step
  enter_past l s h =
      let here = no_wait_past l s h in
      let is = greatest_is (after_wait w l) s (λ r k. let there = no_wait_past l r h in omega (arith, k, here, there)) in
      omega (arith, here, is)

  before_past : (l b : ℕ) → links ≤ l → number_before numbers (buckets_to w.bucket w.horizon) l b ≡ 0
  before_past l zero h = refl
  before_past l (suc b) h = past numbers l b are.many h

  among_past : (s last before H number enter : ℕ) → s ≤ last → before ≡ 0 → number ≡ 0 → enter ≡ s → max s (min (max before (s + number - last)) H) ≡ enter
  among_past s last before H number enter k b n e = omega (arith, k, b, n, e)

  early_is : (l s : ℕ) → s < w.horizon → (l < links) ⊎ (links ≤ l) → entry_among w.horizon (last_step w.bucket w.horizon (s / w.bucket)) (number_before numbers (buckets_to w.bucket w.horizon) l (s / w.bucket)) (number_at numbers (buckets_to w.bucket w.horizon) l (s / w.bucket)) s ≡ enter_step w l s
  early_is l s h (inl k) =
      let i = bucket_inside w.bucket w.horizon s some h in
      entry_is w l s (number_before numbers (buckets_to w.bucket w.horizon) l (s / w.bucket)) (number_at numbers (buckets_to w.bucket w.horizon) l (s / w.bucket)) some h (before_is l (s / w.bucket) k i) (at_place l (s / w.bucket) k i)
  early_is l s h (inr k) =
      among_past s (last_step w.bucket w.horizon (s / w.bucket)) (number_before numbers (buckets_to w.bucket w.horizon) l (s / w.bucket)) w.horizon (number_at numbers (buckets_to w.bucket w.horizon) l (s / w.bucket)) (enter_step w l s)
      (step_last w.bucket w.horizon s some h) (before_past l (s / w.bucket) k) (past numbers l (s / w.bucket) are.many k) (enter_past l s k)

  table : ℕ → ℕ → EntryTable
  table bucket horizon = record { bucket = bucket; horizon = horizon; numbers = numbers }

  each_is : (l s : ℕ) → (s < w.horizon) ⊎ (w.horizon ≤ s) → entry_at (table w.bucket w.horizon) l s ≡ enter_step w l s
  unfolding entry_at table
  each_is l s (inl h) =
      ap (λ b. cond b (entry_among w.horizon (last_step w.bucket w.horizon (s / w.bucket)) (number_before numbers (buckets_to w.bucket w.horizon) l (s / w.bucket)) (number_at numbers (buckets_to w.bucket w.horizon) l (s / w.bucket)) s) s) (is_lt s w.horizon h)
      ∙ early_is l s h (cases_lt l links)
  each_is l s (inr h) =
      ap (λ b. cond b (entry_among w.horizon (last_step w.bucket w.horizon (s / w.bucket)) (number_before numbers (buckets_to w.bucket w.horizon) l (s / w.bucket)) (number_at numbers (buckets_to w.bucket w.horizon) l (s / w.bucket)) s) s) (not_lt s w.horizon h)
      ∙ sym (entries_then w l s h)

  -- the table tells all entries
  pub entries_are : (bucket horizon : ℕ) → bucket ≡ w.bucket → horizon ≡ w.horizon → entry_at (record { bucket = bucket; horizon = horizon; numbers = numbers }) ≡ enter_step w
  unfolding table
  entries_are bucket horizon eb eh =
      ap (λ b. entry_at (table b horizon)) eb ∙ ap (λ h. entry_at (table w.bucket h)) eh
      ∙ fun_ext (λ l. fun_ext (λ s. each_is l s (cases_lt s w.horizon)))
