-- The tables that the calls make are those of the definition.
use Rattle.std.specs.Prelude.{sum_by, replicate}
use Rattle.std.proofs.Common.{◌≡◌, ℕ, ◌*◌, ◌<◌, ◌≤◌, false, List, [], ◌∷◌, length, refl, arith, get_or, ap, sym, ◌∙◌, subst}
use Rattle.std.proofs.lemmas.List.{get_or-replicate, length-map, length-replicate}
use Rattle.std.proofs.lemmas.Nat.{div-mul-add}
use Rattle.std.proofs.lemmas.List.Sums.{sum_by-cons}
use Rattle.net_core.specs.Network.{link_at as link_at_of}
use Rattle.net_core.specs.declared.rows.NetRows.{NetRows}
use Rattle.dta_model.specs.declared.plan.Plan.{Plan}
use Rattle.dta_model.specs.LinkTimes.{TimeTable, Visit, buckets_to, bucket_time, by_bucket, free_steps, free_table, mean_time, place_in, table_in, visits, visits_in}
use Rattle.dta_model.specs.Loading.{trace_after}
use Rattle.dta_model.specs.Plans.{link_at}
use Rattle.dta_model.specs.Sound.{IsSound}
use Rattle.dta_model.specs.Trace.{has_moved}
use Rattle.link_times.specs.Means.{AreFree, AreMeans}
use Rattle.link_times.specs.Sums.{AreSums, number, total}
use Rattle.link_times.proofs.Gone.{absent}
use Rattle.link_times.proofs.Links.{steps_at}
use Rattle.link_times.proofs.Places.{by_bucket-is, place_inside}
use Rattle.link_times.proofs.Sums.{over_vehicles}

abbrev made : ℕ → ℕ → List ℕ → List ℕ → List ℕ → TimeTable
made bucket horizon f t e = record { bucket = bucket; horizon = horizon; free = f; times = t; entered = e }

pub same_table : (bucket horizon : ℕ) (f g t u e d : List ℕ) → f ≡ g → t ≡ u → e ≡ d → made bucket horizon f t e ≡ made bucket horizon g u d
same_table bucket horizon f g t u e d a b c = ap (λ x. made bucket horizon x t e) a ∙ ap (λ x. made bucket horizon g x e) b ∙ ap (λ x. made bucket horizon g u x) c

-- the free-flow table
pub free_table_is : (net : NetRows) (bucket horizon buckets : ℕ) (free shown times : List ℕ) → 1 ≤ buckets → buckets ≡ buckets_to bucket horizon → free ≡ free_steps net → shown ≡ free → AreFree shown buckets times (length shown * buckets)
    → record { bucket = bucket; horizon = horizon; free = free; times = times; entered = replicate (length times) 0 } ≡ free_table net bucket horizon
unfolding free_table
free_table_is net bucket horizon buckets free shown times some eb ef es are =
    let links : ℕ = length net.links in
    let steps : shown ≡ free_steps net = es ∙ ef in
    let count : length shown ≡ links = ap (λ L. length L) steps ∙ length-map net.links (λ link. link.free) in
    let long : length times ≡ links * buckets = are.size ∙ ap (λ n. n * buckets) count in
    let t : times ≡ by_bucket links buckets (λ l b. (link_at_of net l).free) =
    by_bucket-is links buckets (λ l b. (link_at_of net l).free) times some long
    (λ l b hl hb.
    are.each (place_in buckets l b) (subst (λ n. place_in buckets l b < n) (ap (λ n. n * buckets) (sym count)) (place_inside links buckets l b hl hb))
    ∙ ap (λ n. get_or shown n 0) (div-mul-add l buckets b hb) ∙ ap (λ L. get_or L l 0) steps ∙ steps_at net l hl) in
    let e : replicate (length times) 0 ≡ by_bucket links buckets (λ l b. 0) =
    by_bucket-is links buckets (λ l b. 0) (replicate (length times) 0) some (length-replicate (length times) 0 ∙ long)
    (λ l b hl hb. get_or-replicate (length times) (place_in buckets l b) 0 0 (subst (λ n. place_in buckets l b < n) (sym long) (place_inside links buckets l b hl hb))) in
    same_table bucket horizon free (free_steps net) times (by_bucket links (buckets_to bucket horizon) (λ l b. (link_at_of net l).free)) (replicate (length times) 0) (by_bucket links (buckets_to bucket horizon) (λ l b. 0)) ef
    (t ∙ ap (λ n. by_bucket links n (λ l b. (link_at_of net l).free)) eb) (e ∙ ap (λ n. by_bucket links n (λ l b. 0)) eb)

-- it is that of an empty trace
pub empty_is : (p : Plan) (net : NetRows) (bucket horizon : ℕ) → p.net ≡ net → p.horizon ≡ horizon → free_table net bucket horizon ≡ table_in p bucket []
unfolding free_table table_in visits_in visits
empty_is p net bucket horizon en eh =
    subst (λ n. free_table n bucket horizon ≡ table_in p bucket []) en (subst (λ h. free_table p.net bucket h ≡ table_in p bucket []) eh refl)

pub ones : (xs : List Visit) → sum_by (λ v. 1) xs ≡ length xs
ones [] = refl
ones (x ∷ xs) = let a = ones xs in let b = sum_by-cons (λ v. 1) x xs in omega (arith, a, b)

-- the table of a loading
pub table_is : (p : Plan) → IsSound p → (bucket buckets : ℕ) (free shown sums counts times shown_sums shown_counts : List ℕ) → 1 ≤ buckets → buckets ≡ buckets_to bucket p.horizon → free ≡ free_steps p.net → shown ≡ free
    → length sums ≡ length p.net.links * buckets → length counts ≡ length sums → shown_sums ≡ sums → shown_counts ≡ counts
    → AreSums p bucket buckets (length p.trips) sums counts → AreMeans shown buckets shown_sums shown_counts times (length shown_sums)
    → record { bucket = bucket; horizon = p.horizon; free = free; times = times; entered = counts } ≡ table_in p bucket (trace_after p p.horizon)
unfolding table_in total number
table_is p sound bucket buckets free shown sums counts times shown_sums shown_counts some eb ef es long many ss sc added are =
    let links : ℕ = length p.net.links in
    let T = trace_after p p.horizon in
    let steps : shown ≡ free_steps p.net = es ∙ ef in
    let tall : length shown_sums ≡ links * buckets = ap (λ L. length L) ss ∙ long in
    let gone : (v : ℕ) → length p.trips ≤ v → has_moved v T ≡ false = λ v h. absent p v (let each = sound.each in omega (arith, h, each)) in
    let sum_all : (l b : ℕ) → l < links → b < buckets → get_or sums (place_in buckets l b) 0 ≡ sum_by (λ v. v.time) (visits_in p bucket l b T) =
    λ l b hl hb. added.sum_is l b hl hb ∙ over_vehicles (λ v. v.time) p bucket l b (length p.trips) T gone in
    let count_all : (l b : ℕ) → l < links → b < buckets → get_or counts (place_in buckets l b) 0 ≡ length (visits_in p bucket l b T) =
    λ l b hl hb. added.count_is l b hl hb ∙ over_vehicles (λ v. 1) p bucket l b (length p.trips) T gone ∙ ones (visits_in p bucket l b T) in
    let t : times ≡ by_bucket links buckets (λ l b. bucket_time (link_at p l).free (visits_in p bucket l b T)) =
    by_bucket-is links buckets (λ l b. bucket_time (link_at p l).free (visits_in p bucket l b T)) times some (are.size ∙ tall)
    (λ l b hl hb.
    are.each (place_in buckets l b) (subst (λ n. place_in buckets l b < n) (sym tall) (place_inside links buckets l b hl hb))
    ∙ ap (λ n. mean_time (get_or shown n 0) (get_or shown_sums (place_in buckets l b) 0) (get_or shown_counts (place_in buckets l b) 0)) (div-mul-add l buckets b hb)
    ∙ ap (λ f. mean_time f (get_or shown_sums (place_in buckets l b) 0) (get_or shown_counts (place_in buckets l b) 0)) (ap (λ L. get_or L l 0) steps ∙ steps_at p.net l hl)
    ∙ ap (λ s. mean_time (link_at p l).free s (get_or shown_counts (place_in buckets l b) 0)) (ap (λ L. get_or L (place_in buckets l b) 0) ss ∙ sum_all l b hl hb)
    ∙ ap (λ n. mean_time (link_at p l).free (sum_by (λ v. v.time) (visits_in p bucket l b T)) n) (ap (λ L. get_or L (place_in buckets l b) 0) sc ∙ count_all l b hl hb)) in
    let e : counts ≡ by_bucket links buckets (λ l b. length (visits_in p bucket l b T)) =
    by_bucket-is links buckets (λ l b. length (visits_in p bucket l b T)) counts some (many ∙ long) count_all in
    same_table bucket p.horizon free (free_steps p.net) times (by_bucket links (buckets_to bucket p.horizon) (λ l b. bucket_time (link_at p l).free (visits_in p bucket l b T))) counts (by_bucket links (buckets_to bucket p.horizon) (λ l b. length (visits_in p bucket l b T))) ef
    (t ∙ ap (λ n. by_bucket links n (λ l b. bucket_time (link_at p l).free (visits_in p bucket l b T))) eb) (e ∙ ap (λ n. by_bucket links n (λ l b. length (visits_in p bucket l b T))) eb)
