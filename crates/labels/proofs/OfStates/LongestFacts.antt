-- The greatest time of a link.
use Rattle.std.proofs.Common.{◌≡◌, ◌⊎◌, inl, inr, ℕ, ◌/◌, ◌<◌, ◌≤◌, false, get_or, refl, sym, ◌∙◌, arith}
use Rattle.std.specs.Prelude.{nat_lt}
use Rattle.std.proofs.lemmas.Bool.{cases_lt}
use Rattle.std.proofs.lemmas.Bool.Decides.{nat_tests}
use Rattle.dta_model.specs.LinkTimes.{TimeTable, bucket_count, place_in, time_at}
use Rattle.link_times.proofs.Places.{bucket_inside}
use Rattle.link_times.proofs.RowFacts.{early_is}

free_late : (t : TimeTable) (l e : ℕ) → t.horizon ≤ e → time_at t l e ≡ get_or t.free l 0
unfolding time_at
free_late t l e late = let n : nat_lt e t.horizon ≡ false = grind (arith, nat_tests) in rw n refl

-- from the horizon on all times are the same
pub late_same : (t : TimeTable) (l e f : ℕ) → t.horizon ≤ e → t.horizon ≤ f → time_at t l e ≡ time_at t l f
late_same t l e f he hf = free_late t l e he ∙ sym (free_late t l f hf)

-- what is at least the time of each bucket and that at the horizon is at least all times
pub most_over : (t : TimeTable) (l most buckets : ℕ) → 1 ≤ t.bucket → bucket_count t ≤ buckets → time_at t l t.horizon ≤ most → ((b : ℕ) → b < buckets → get_or t.times (place_in (bucket_count t) l b) 0 ≤ most) → (e : ℕ) → time_at t l e ≤ most
most_over t l most buckets some whole late before e = by (cases_lt e t.horizon)
  where
    by : (e < t.horizon) ⊎ (t.horizon ≤ e) → time_at t l e ≤ most
    by (inl early) =
        let is = early_is t l e early in
        let b = bucket_inside t.bucket t.horizon e some early in
        let low = before (e / t.bucket) (omega (arith, b, whole)) in
        omega (arith, is, low)
    by (inr after) =
        let same = late_same t l e t.horizon after (omega arith) in
        omega (arith, same, late)
