-- The table of link times follows from each vehicle's own moves, so any order of the nodes gives it.
use Rattle.std.specs.List.{flat_map, list_any}
use Rattle.std.specs.Prelude.{map, sum_by}
use Rattle.std.proofs.Common.{◌≡◌, ℕ, ◌≤◌, true, false, List, [], ◌∷◌, length, refl, ap, sym, ◌∙◌}
use Rattle.net_core.specs.Network.{numbers_below}
use Rattle.dta_model.specs.declared.plan.Plan.{Plan}
use Rattle.dta_model.specs.LinkTimes.{Visit, buckets_to, bucket_time, by_bucket, free_steps}
use Rattle.dta_model.specs.LinkTimes.{mean_time, table_in, visits_in}
use Rattle.dta_model.specs.Loading.{trace_after}
use Rattle.dta_model.specs.Orders.{trace_in}
use Rattle.dta_model.specs.Plans.{link_at}
use Rattle.dta_model.specs.Trace.{Move, has_moved, moves_of}
use Rattle.dta_model.proofs.AnyOrder.{any_order}
use Rattle.dta_model.proofs.Pushes.{has_moved_is}
use Rattle.link_times.specs.Orders.{SameTimes}
use Rattle.link_times.proofs.Gone.{absent}
use Rattle.link_times.proofs.Sums.{over_vehicles, sum_in, sum_to-same}
use Rattle.link_times.proofs.Tabled.{ones, same_table}

by_bucket-same : (links buckets : ℕ) (f g : ℕ → ℕ → ℕ) → ((l b : ℕ) → f l b ≡ g l b) → by_bucket links buckets f ≡ by_bucket links buckets g
unfolding by_bucket
by_bucket-same links buckets f g e = each (numbers_below links)
  where
    row : (l : ℕ) (bs : List ℕ) → map (f l) bs ≡ map (g l) bs
    row l [] = refl
    row l (b ∷ bs) = rw (e l b, row l bs) refl

    each : (ls : List ℕ) → flat_map (λ l. map (f l) (numbers_below buckets)) ls ≡ flat_map (λ l. map (g l) (numbers_below buckets)) ls
    each [] = refl
    each (l ∷ ls) = rw (row l (numbers_below buckets), each ls) refl

module _ (p : Plan) (bucket n : ℕ) (T U : List Move) (moves : (v : ℕ) → moves_of v T ≡ moves_of v U) (none : (v : ℕ) → n ≤ v → has_moved v U ≡ false) where
  none_too : (v : ℕ) → n ≤ v → has_moved v T ≡ false
  none_too v h = has_moved_is v T ∙ ap (λ L. list_any (λ _. true) L) (moves v) ∙ sym (has_moved_is v U) ∙ none v h

  same_sum : (f : Visit → ℕ) (l b : ℕ) → sum_in f p bucket l b T ≡ sum_in f p bucket l b U
  same_sum f l b =
      sym (over_vehicles f p bucket l b n T none_too)
      ∙ sum_to-same n (λ v. sum_in f p bucket l b (moves_of v T)) (λ v. sum_in f p bucket l b (moves_of v U)) (λ v. ap (λ M. sum_in f p bucket l b M) (moves v))
      ∙ over_vehicles f p bucket l b n U none

  same_number : (l b : ℕ) → length (visits_in p bucket l b T) ≡ length (visits_in p bucket l b U)
  same_number l b = sym (ones (visits_in p bucket l b T)) ∙ same_sum (λ v. 1) l b ∙ ones (visits_in p bucket l b U)

  same_time : (l b : ℕ) → bucket_time (link_at p l).free (visits_in p bucket l b T) ≡ bucket_time (link_at p l).free (visits_in p bucket l b U)
  same_time l b =
      ap (λ s. mean_time (link_at p l).free s (length (visits_in p bucket l b T))) (same_sum (λ v. v.time) l b)
      ∙ ap (λ k. mean_time (link_at p l).free (sum_by (λ v. v.time) (visits_in p bucket l b U)) k) (same_number l b)

  table_same : table_in p bucket T ≡ table_in p bucket U
  unfolding table_in
  table_same =
      same_table bucket p.horizon (free_steps p.net) (free_steps p.net) _ _ _ _ refl
      (by_bucket-same (length p.net.links) (buckets_to bucket p.horizon) (λ l b. bucket_time (link_at p l).free (visits_in p bucket l b T)) (λ l b. bucket_time (link_at p l).free (visits_in p bucket l b U)) same_time)
      (by_bucket-same (length p.net.links) (buckets_to bucket p.horizon) (λ l b. length (visits_in p bucket l b T)) (λ l b. length (visits_in p bucket l b U)) same_number)

pub same_times : SameTimes
same_times p order any bucket =
    table_same p bucket (length p.routes) (trace_in p order p.horizon) (trace_after p p.horizon) (any_order p order any p.horizon).moves (absent p)
