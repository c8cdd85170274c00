-- Times bucket by bucket, added one after another and read.
use Rattle.std.specs.Prelude.{nat_lt, slice_get, slice_index}
use Rattle.std.proofs.Common.{◌≡◌, ◌⊎◌, inl, inr, ℕ, ◌+◌, ◌*◌, ◌/◌, ◌%◌, ◌<◌, ◌≤◌, List, [], ◌∷◌, ◌++◌, length, refl, arith, get_or, ap, sym, ◌∙◌, true, Some}
use Rattle.std.proofs.lemmas.Bool.{cases_lt}
use Rattle.std.proofs.lemmas.Bool.Decides.{nat_tests}
use Rattle.std.proofs.lemmas.List.{get_or_append_left, length-append}
use Rattle.std.proofs.lemmas.Nat.{div-mul-add, mod-mul-add}
use Rattle.std.proofs.lemmas.Option.{get_or_from_slice_get, slice_get_within}
use Rattle.std.proofs.Math.Seq.{get_or-append_seam}
use Rattle.dta_model.specs.LinkTimes.{TimeTable, bucket_count, place_in, time_at}
use Rattle.link_times.specs.Rows.{AreRows, AreRowsTo}

-- one more time
pub AreRowsTo_more : (links buckets bucket link x : ℕ) (times xs new : List ℕ) → link < links → x ≡ get_or times (link * buckets + bucket) 0 → new ≡ xs ++ x ∷ []
    → AreRowsTo links buckets times xs (bucket * links + link) → AreRowsTo links buckets times new (bucket * links + (link + 1))
AreRowsTo_more links buckets bucket link x times xs new small is grown old = record { many = many; are = λ k h. at k h (cases_lt k (length xs)) }
  where
    many : length new ≡ bucket * links + (link + 1)
    many = let n = ap (λ (l : List ℕ). length l) grown in let m = length-append xs (x ∷ []) in omega (arith, n, m, old.many)

    at : (k : ℕ) → k < length new → (k < length xs) ⊎ (length xs ≤ k) → get_or new k 0 ≡ get_or times (place_in buckets (k % links) (k / links)) 0
    at k h (inl early) = ap (λ (l : List ℕ). get_or l k 0) grown ∙ get_or_append_left xs (x ∷ []) 0 k early ∙ old.are k early
    at k h (inr late) =
        let last : k ≡ length xs = omega (arith, h, late, many, old.many) in
        let place : k ≡ bucket * links + link = last ∙ old.many in
        let row : k / links ≡ bucket = ap (λ n. n / links) place ∙ div-mul-add bucket links link small in
        let column : k % links ≡ link = ap (λ n. n % links) place ∙ mod-mul-add bucket links link small in
        ap (λ (l : List ℕ). get_or l k 0) grown ∙ ap (λ n. get_or (xs ++ x ∷ []) n 0) last ∙ get_or-append_seam xs x [] 0 ∙ is
        ∙ ap (λ n. get_or times (n * buckets + bucket) 0) (sym column) ∙ ap (λ n. get_or times ((k % links) * buckets + n) 0) (sym row)

-- what is read at the place of a link in the row of a bucket is its time in the bucket
pub row_read : (links buckets bucket link place x : ℕ) (times xs : List ℕ) → link < links → place ≡ bucket * links + link → slice_get xs place ≡ Some x → AreRows links buckets times xs → x ≡ get_or times (place_in buckets link bucket) 0
row_read links buckets bucket link place x times xs small is read rows =
    let within = slice_get_within xs place x read in
    let row : place / links ≡ bucket = ap (λ n. n / links) is ∙ div-mul-add bucket links link small in
    let column : place % links ≡ link = ap (λ n. n % links) is ∙ mod-mul-add bucket links link small in
    sym (get_or_from_slice_get xs place x 0 read) ∙ rows place within
    ∙ ap (λ n. get_or times (n * buckets + place / links) 0) column ∙ ap (λ n. get_or times (link * buckets + n) 0) row

-- before the horizon a time is that of its bucket
pub early_is : (t : TimeTable) (l e : ℕ) → e < t.horizon → time_at t l e ≡ slice_index t.times (place_in (bucket_count t) l (e / t.bucket))
unfolding time_at
early_is t l e early = let n : nat_lt e t.horizon ≡ true = grind (arith, nat_tests) in rw n refl
