-- Places of buckets.
use Rattle.std.specs.Prelude.{get_or, map}
use Rattle.std.specs.List.{flat_map, range_with_len}
use Rattle.std.proofs.Common.{◌≡◌, ◌⊎◌, inl, inr, ℕ, zero, suc, ◌+◌, ◌*◌, ◌/◌, ◌%◌, ◌<◌, ◌≤◌, List, ◌++◌, length, refl, arith, ap, sym, ◌∙◌}
use Rattle.std.proofs.lemmas.Bool.{cases_lt}
use Rattle.std.proofs.lemmas.Grind.{div_ceil_times, same_number_lists}
use Rattle.std.proofs.lemmas.List.{get_or_append_left, get_or-append-add, length-append}
use Rattle.std.proofs.lemmas.List.FromFn.{get_or-map-range_with_len, length-map-range_with_len}
use Rattle.std.proofs.lemmas.Nat.{div-mul-add}
use Rattle.std.proofs.Math.Nat.{div-mul-le_self, mod-add-div, mod-lt}
use Rattle.dta_model.specs.LinkTimes.{buckets_to, by_bucket, place_in}

pub product_le : (a b n : ℕ) → a ≤ b → a * n ≤ b * n
product_le a b n h = grind arith

pub bucket_inside : (bucket horizon entry : ℕ) → 1 ≤ bucket → entry < horizon → entry / bucket < buckets_to bucket horizon
bucket_inside bucket horizon entry h e =
    let a = div-mul-le_self entry bucket in
    let b = (div_ceil_times horizon bucket h).0 in
    by (cases_lt (entry / bucket) (buckets_to bucket horizon)) (entry / bucket) (buckets_to bucket horizon) refl refl a b
  where
    by : (entry / bucket < buckets_to bucket horizon) ⊎ (buckets_to bucket horizon ≤ entry / bucket) → (m d : ℕ) → m ≡ entry / bucket → d ≡ buckets_to bucket horizon → m * bucket ≤ entry → horizon ≤ d * bucket → entry / bucket < buckets_to bucket horizon
    by (inl k) m d em ed a b = k
    by (inr k) m d em ed a b = let c = product_le d m bucket (omega (arith, k, em, ed)) in absurd (omega (arith, a, b, c, e))

pub place_inside : (links buckets l b : ℕ) → l < links → b < buckets → place_in buckets l b < links * buckets
place_inside links buckets l b h k = let c = product_le (l + 1) links buckets (omega (arith, h)) in let d : (l + 1) * buckets ≡ l * buckets + buckets = grind arith in omega (arith, c, d, k)

-- a place tells its link and bucket
pub place_tells : (buckets l b k c : ℕ) → b < buckets → c < buckets → place_in buckets l b ≡ place_in buckets k c → (l ≡ k) × (b ≡ c)
place_tells buckets l b k c h i e =
    let same : l ≡ k = sym (div-mul-add l buckets b h) ∙ ap (λ x. x / buckets) e ∙ div-mul-add k buckets c i in
    (same, rest_same same)
  where
    rest_same : l ≡ k → b ≡ c
    rest_same s = let f : l * buckets ≡ k * buckets = ap (λ x. x * buckets) s in omega (arith, e, f)

-- each place is that of a bucket
pub place_again : (buckets q : ℕ) → q ≡ place_in buckets (q / buckets) (q % buckets)
place_again buckets q = let a = mod-add-div q buckets in let b : buckets * (q / buckets) ≡ q / buckets * buckets = grind arith in omega (arith, a, b)

pub link_inside : (links buckets q : ℕ) → q < links * buckets → q / buckets < links
link_inside links buckets q h = by (cases_lt (q / buckets) links)
  where
    by : (q / buckets < links) ⊎ (links ≤ q / buckets) → q / buckets < links
    by (inl k) = k
    by (inr k) = let a = div-mul-le_self q buckets in let c = product_le links (q / buckets) buckets k in absurd (omega (arith, a, c, h))

-- the numbers of all buckets
rows_long : (buckets : ℕ) (f : ℕ → ℕ → ℕ) (from k : ℕ) → length (flat_map (λ l. map (f l) (range_with_len 0 buckets)) (range_with_len from k)) ≡ k * buckets
rows_long buckets f from zero = omega arith
rows_long buckets f from (suc k) =
    let a = rows_long buckets f (from + 1) k in
    let b = length-map-range_with_len (f from) 0 buckets in
    length-append (map (f from) (range_with_len 0 buckets)) (flat_map (λ l. map (f l) (range_with_len 0 buckets)) (range_with_len (from + 1) k)) ∙ added _ _ k a b
  where
    added : (x y k : ℕ) → y ≡ k * buckets → x ≡ buckets → x + y ≡ suc k * buckets
    added x y k e g = grind arith

rows_get : (buckets : ℕ) (f : ℕ → ℕ → ℕ) (from k j b : ℕ) → j < k → b < buckets → get_or (flat_map (λ l. map (f l) (range_with_len 0 buckets)) (range_with_len from k)) (j * buckets + b) 0 ≡ f (from + j) b
rows_get buckets f from zero j b h i = absurd (omega (arith, h))
rows_get buckets f from (suc k) zero b h i =
    let long = length-map-range_with_len (f from) 0 buckets in
    ap (λ n. get_or (map (f from) (range_with_len 0 buckets) ++ flat_map (λ l. map (f l) (range_with_len 0 buckets)) (range_with_len (from + 1) k)) n 0) (first b)
    ∙ get_or_append_left (map (f from) (range_with_len 0 buckets)) (flat_map (λ l. map (f l) (range_with_len 0 buckets)) (range_with_len (from + 1) k)) 0 b (omega (arith, i, long))
    ∙ get_or-map-range_with_len (f from) 0 buckets b b 0 i (omega arith)
    ∙ ap (λ n. f n b) (same from)
  where
    first : (b : ℕ) → 0 * buckets + b ≡ b
    first b = omega arith

    same : (n : ℕ) → n ≡ n + 0
    same n = omega arith
rows_get buckets f from (suc k) (suc j) b h i =
    let long = length-map-range_with_len (f from) 0 buckets in
    ap (λ n. get_or (map (f from) (range_with_len 0 buckets) ++ flat_map (λ l. map (f l) (range_with_len 0 buckets)) (range_with_len (from + 1) k)) n 0) (later j b (length (map (f from) (range_with_len 0 buckets))) long)
    ∙ get_or-append-add (map (f from) (range_with_len 0 buckets)) (flat_map (λ l. map (f l) (range_with_len 0 buckets)) (range_with_len (from + 1) k)) (j * buckets + b) 0
    ∙ rows_get buckets f (from + 1) k j b (omega (arith, h)) i
    ∙ ap (λ n. f n b) (onward from j)
  where
    later : (j b n : ℕ) → n ≡ buckets → suc j * buckets + b ≡ n + (j * buckets + b)
    later j b n e = grind arith

    onward : (n j : ℕ) → n + 1 + j ≡ n + suc j
    onward n j = omega arith

pub by_bucket-long : (links buckets : ℕ) (f : ℕ → ℕ → ℕ) → length (by_bucket links buckets f) ≡ links * buckets
unfolding by_bucket
by_bucket-long links buckets f = rows_long buckets f 0 links

pub by_bucket-get : (links buckets : ℕ) (f : ℕ → ℕ → ℕ) (l b : ℕ) → l < links → b < buckets → get_or (by_bucket links buckets f) (place_in buckets l b) 0 ≡ f l b
unfolding by_bucket
by_bucket-get links buckets f l b h i = rows_get buckets f 0 links l b h i ∙ ap (λ n. f n b) (start l)
  where
    start : (l : ℕ) → 0 + l ≡ l
    start l = omega arith

-- a list that has them at their places
pub by_bucket-is : (links buckets : ℕ) (f : ℕ → ℕ → ℕ) (xs : List ℕ) → 1 ≤ buckets → length xs ≡ links * buckets → ((l b : ℕ) → l < links → b < buckets → get_or xs (place_in buckets l b) 0 ≡ f l b) → xs ≡ by_bucket links buckets f
by_bucket-is links buckets f xs some long each =
    same_number_lists xs (by_bucket links buckets f) (long ∙ sym (by_bucket-long links buckets f))
    (λ q h.
    let l = link_inside links buckets q (omega (arith, h, long)) in
    let b : q % buckets < buckets = mod-lt q some in
    ap (λ n. get_or xs n 0) (place_again buckets q) ∙ each (q / buckets) (q % buckets) l b
    ∙ sym (by_bucket-get links buckets f (q / buckets) (q % buckets) l b) ∙ ap (λ n. get_or (by_bucket links buckets f) n 0) (sym (place_again buckets q)))
