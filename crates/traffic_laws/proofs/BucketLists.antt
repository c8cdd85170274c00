-- The buckets of all links one after another, and lists that have something of each.
use Rattle.std.specs.Prelude.{map}
use Rattle.std.specs.List.{flat_map, range_with_len}
use Rattle.std.proofs.Common.{◌≡◌, ℕ, zero, suc, ◌+◌, ◌*◌, ◌<◌, ◌≤◌, List, ◌∷◌, ◌++◌, length}
use Rattle.std.proofs.Common.{refl, arith, ap, sym, ◌∙◌, All}
use Rattle.std.proofs.lemmas.Grind.{flat_map-append}
use Rattle.std.proofs.lemmas.List.{length-map, map-append}
use Rattle.std.proofs.lemmas.List.Elements.{All-append, All-cons, All-nil}
use Rattle.std.proofs.lemmas.List.Folds.{flat_map-map}
use Rattle.std.proofs.lemmas.List.FromFn.{length-range_with_len}
use Rattle.std.proofs.lemmas.Simd.{map-map}
use Rattle.dta_model.specs.LinkTimes.{by_bucket}

-- a bucket of a link
abbrev pub LinkBucket : Type 0
LinkBucket = ℕ × ℕ

abbrev pub of_link : ℕ → ℕ → List LinkBucket
of_link buckets l = map (λ b. (l, b)) (range_with_len 0 buckets)

abbrev pub buckets_from : ℕ → ℕ → ℕ → List LinkBucket
buckets_from buckets from links = flat_map (of_link buckets) (range_with_len from links)

-- how many buckets stand up to one, with it
abbrev pub number_in : ℕ → LinkBucket → ℕ
number_in buckets c = c.0 * buckets + c.1 + 1

-- ---- texts
pub flat_buckets : (g : ℕ → ℕ → List ℕ) (buckets from links : ℕ)
    → flat_map (λ l. flat_map (g l) (range_with_len 0 buckets)) (range_with_len from links)
    ≡ flat_map (λ c. g c.0 c.1) (buckets_from buckets from links)
flat_buckets g buckets from zero = refl
flat_buckets g buckets from (suc links) =
    ap (λ t. flat_map (g from) (range_with_len 0 buckets) ++ t)
    (flat_buckets g buckets (from + 1) links)
    ∙ ap (λ t. t
    ++ flat_map (λ (c : LinkBucket). g c.0 c.1) (buckets_from buckets (from + 1) links))
    (sym (flat_map-map (λ (c : LinkBucket). g c.0 c.1) (λ b. (from, b)) (range_with_len 0 buckets)))
    ∙ sym (flat_map-append (λ (c : LinkBucket). g c.0 c.1) (of_link buckets from)
    (buckets_from buckets (from + 1) links))

-- ---- numbers
pub number_buckets : (f : ℕ → ℕ → ℕ) (buckets from links : ℕ)
    → map (λ (c : LinkBucket). f c.0 c.1) (buckets_from buckets from links)
    ≡ flat_map (λ l. map (f l) (range_with_len 0 buckets)) (range_with_len from links)
number_buckets f buckets from zero = refl
number_buckets f buckets from (suc links) =
    map-append (λ (c : LinkBucket). f c.0 c.1) (of_link buckets from)
    (buckets_from buckets (from + 1) links)
    ∙ ap (λ t. t ++ map (λ (c : LinkBucket). f c.0 c.1) (buckets_from buckets (from + 1) links))
    (map-map (λ (c : LinkBucket). f c.0 c.1) (λ b. (from, b)) (range_with_len 0 buckets))
    ∙ ap (λ t. map (f from) (range_with_len 0 buckets) ++ t)
    (number_buckets f buckets (from + 1) links)

pub by_buckets : (f : ℕ → ℕ → ℕ) (buckets links : ℕ)
    → map (λ (c : LinkBucket). f c.0 c.1) (buckets_from buckets 0 links) ≡ by_bucket links buckets f
unfolding by_bucket
by_buckets f buckets links = number_buckets f buckets 0 links

-- ---- places
range_joined : (a m n : ℕ)
    → range_with_len a m ++ range_with_len (a + m) n ≡ range_with_len a (m + n)
range_joined a zero n = ap (λ x. range_with_len x n) (none a) ∙ ap (range_with_len a) (same n)
  where
    none : (a : ℕ) → a + 0 ≡ a
    none a = omega arith

    same : (n : ℕ) → n ≡ 0 + n
    same n = omega arith
range_joined a (suc m) n =
    ap (λ x. a ∷ (range_with_len (a + 1) m ++ range_with_len x n)) (next a m)
    ∙ ap (λ t. a ∷ t) (range_joined (a + 1) m n)
    ∙ ap (range_with_len a) (more m n)
  where
    next : (a m : ℕ) → a + suc m ≡ a + 1 + m
    next a m = omega arith

    more : (m n : ℕ) → suc (m + n) ≡ suc m + n
    more m n = omega arith

range_moved : (a from n : ℕ)
    → map (λ b. a + b + 1) (range_with_len from n) ≡ range_with_len (a + from + 1) n
range_moved a from zero = refl
range_moved a from (suc n) =
    ap (λ t. (a + from + 1) ∷ t) (range_moved a (from + 1) n
    ∙ ap (λ x. range_with_len x n) (next a from))
  where
    next : (a from : ℕ) → a + (from + 1) + 1 ≡ a + from + 1 + 1
    next a from = omega arith

pub buckets_rise : (buckets from links : ℕ)
    → map (number_in buckets) (buckets_from buckets from links)
    ≡ range_with_len (from * buckets + 1) (links * buckets)
buckets_rise buckets from zero = ap (range_with_len (from * buckets + 1)) (none buckets)
  where
    none : (b : ℕ) → 0 ≡ 0 * b
    none b = omega arith
buckets_rise buckets from (suc links) =
    map-append (number_in buckets) (of_link buckets from) (buckets_from buckets (from + 1) links)
    ∙ ap (λ t. t ++ map (number_in buckets) (buckets_from buckets (from + 1) links))
    (map-map (number_in buckets) (λ b. (from, b)) (range_with_len 0 buckets)
    ∙ range_moved (from * buckets) 0 buckets
    ∙ ap (λ x. range_with_len x buckets) (start (from * buckets)))
    ∙ ap (λ t. range_with_len (from * buckets + 1) buckets ++ t)
    (buckets_rise buckets (from + 1) links)
    ∙ ap (λ x. range_with_len (from * buckets + 1) buckets ++ range_with_len x (links * buckets))
    (next from)
    ∙ range_joined (from * buckets + 1) buckets (links * buckets)
    ∙ ap (range_with_len (from * buckets + 1)) (more links)
  where
    start : (x : ℕ) → x + 0 + 1 ≡ x + 1
    start x = omega arith

    next : (from : ℕ) → (from + 1) * buckets + 1 ≡ from * buckets + 1 + buckets
    next from = grind arith

    more : (links : ℕ) → buckets + links * buckets ≡ suc links * buckets
    more links = grind arith

pub buckets_many : (buckets from links : ℕ)
    → length (buckets_from buckets from links) ≡ links * buckets
buckets_many buckets from links =
    sym (length-map (buckets_from buckets from links) (number_in buckets))
    ∙ ap (λ L. length L) (buckets_rise buckets from links)
    ∙ length-range_with_len (from * buckets + 1) (links * buckets)

-- ---- what is true of each
pub all_buckets : (P : LinkBucket → Type 0) (buckets from links : ℕ)
    → ((l b : ℕ) → from ≤ l → l < from + links → b < buckets → P (l, b))
    → All P (buckets_from buckets from links)
all_buckets P buckets from zero h = All-nil P
all_buckets P buckets from (suc links) h =
    All-append P (of_link buckets from) (buckets_from buckets (from + 1) links)
    (row 0 buckets (λ b k. h from b (omega arith) (omega arith) (omega (arith, k))))
    (all_buckets P buckets (from + 1) links
    (λ l b i j k. h l b (omega (arith, i)) (omega (arith, j)) k))
  where
    row : (a n : ℕ) → ((b : ℕ) → b < a + n → P (from, b))
        → All P (map (λ b. (from, b)) (range_with_len a n))
    row a zero h = All-nil P
    row a (suc n) h =
        All-cons P (from, a) (map (λ b. (from, b)) (range_with_len (a + 1) n)) (h a (omega arith))
        (row (a + 1) n (λ b j. h b (omega (arith, j))))
