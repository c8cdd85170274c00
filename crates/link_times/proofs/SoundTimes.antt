-- The times of every table are sound.
use Rattle.std.proofs.Common.{◌≡◌, ◌⊎◌, inl, inr, ℕ, ◌*◌, ◌/◌, ◌<◌, ◌≤◌, true, false, length, arith, get_or, cond}
use Rattle.std.specs.Prelude.{All, nat_lt}
use Rattle.std.proofs.lemmas.Bool.{cases_lt}
use Rattle.std.proofs.lemmas.Bool.Decides.{nat_tests}
use Rattle.dta_model.specs.LinkTimes.{TimeTable, time_at, buckets_to, place_in}
use Rattle.link_times.proofs.Places.{bucket_inside, place_inside}

-- what holds of all numbers of a table holds of its times
module _ (t : TimeTable) (P : ℕ → Type 0) (some : 1 ≤ t.bucket) (size : length t.times ≡ length t.free * buckets_to t.bucket t.horizon) (free : All P t.free) (times : All P t.times) where
  pub time_holds : (l e : ℕ) → l < length t.free → P (time_at t l e)
  unfolding time_at
  time_holds l e h = by (cases_lt e t.horizon)
    where
      before : e < t.horizon → P (get_or t.times (place_in (buckets_to t.bucket t.horizon) l (e / t.bucket)) 0)
      before early =
          let b = bucket_inside t.bucket t.horizon e some early in
          let p = place_inside (length t.free) (buckets_to t.bucket t.horizon) l (e / t.bucket) h b in
          times (place_in (buckets_to t.bucket t.horizon) l (e / t.bucket)) 0 (omega (arith, p, size))

      by : (e < t.horizon) ⊎ (t.horizon ≤ e) → P (cond (nat_lt e t.horizon) (get_or t.times (place_in (buckets_to t.bucket t.horizon) l (e / t.bucket)) 0) (get_or t.free l 0))
      by (inl early) = let n : nat_lt e t.horizon ≡ true = grind (arith, nat_tests) in rw n (before early)
      by (inr late) = let n : nat_lt e t.horizon ≡ false = grind (arith, nat_tests) in rw n (free l 0 h)
