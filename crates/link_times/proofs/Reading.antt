-- Reading a table.
use Rattle.std.specs.Prelude.{slice_index, cond}
use Rattle.std.proofs.Common.{◌≡◌, ℕ, zero, suc, ◌+◌, ◌*◌, ◌/◌, ◌<◌, ◌≤◌, List, [], ◌∷◌, length, refl, arith, get_or, ap, sym, ◌∙◌, subst}
use Rattle.net_core.proofs.Orders.{is_lt}
use Rattle.dta_model.specs.LinkTimes.{buckets_to, place_in, time_at}
use Rattle.link_times.specs.Tables.{IsTable, table_view}
use Rattle.link_times.specs.declared.table.LinkTimes.TheInside.{Inside}
use Rattle.link_times.proofs.Places.{bucket_inside, place_inside}

default_is : (xs : List ℕ) (q d e : ℕ) → q < length xs → get_or xs q d ≡ get_or xs q e
default_is [] q d e h = absurd (omega (arith, h))
default_is (x ∷ xs) zero d e h = refl
default_is (x ∷ xs) (suc q) d e h = default_is xs q d e (omega (arith, h))

module _ (t : Inside) (sound : IsTable t) (l step : ℕ) (link : l < length t.free.items) (early : step < t.horizon) where
  place_there : l * t.buckets + step / t.bucket < length t.times.items
  place_there =
      subst (λ n. l * t.buckets + step / t.bucket < n) (sym sound.size)
      (place_inside (length t.free.items) t.buckets l (step / t.bucket) link
      (subst (λ n. step / t.bucket < n) (sym sound.buckets) (bucket_inside t.bucket t.horizon step sound.lasts early)))

  pub read_is : (d : ℕ) → get_or t.times.items (l * t.buckets + step / t.bucket) d ≡ time_at (table_view t) l step
  unfolding time_at
  read_is d =
      default_is t.times.items (l * t.buckets + step / t.bucket) d 0 place_there
      ∙ ap (λ n. slice_index t.times.items (l * n + step / t.bucket)) sound.buckets
      ∙ sym (ap (λ b. cond b (slice_index t.times.items (place_in (buckets_to t.bucket t.horizon) l (step / t.bucket))) (slice_index t.free.items l)) (is_lt step t.horizon early))

  pub read_least : (d : ℕ) → 1 ≤ get_or t.times.items (l * t.buckets + step / t.bucket) d
  read_least d = sound.times (l * t.buckets + step / t.bucket) d place_there
