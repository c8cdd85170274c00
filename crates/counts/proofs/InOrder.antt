-- Lists of keys in order, and what comes before an element of a list that is sorted.
use Rattle.std.specs.List.{flat_map, range_with_len}
use Rattle.std.specs.List.Sorted.{IsSorted}
use Rattle.std.specs.Ordering.{is_lt}
use Rattle.std.specs.declared.cmp.Ordering.{Ordering}
use Rattle.std.specs.Cmp.{IsTotalOrder}
use Rattle.std.specs.Prelude.{All, count_by}
use Rattle.std.proofs.Common.{◌≡◌, ℕ, zero, suc, ◌+◌, ◌<◌, ◌≤◌, Bool, true, false, List, [], ◌∷◌, ◌++◌, length, map, take, get_or, refl, ap, sym, ◌∙◌, subst, arith, ◌⊎◌, inl, inr}
use Rattle.std.proofs.lemmas.Bool.{cases_lt, false≢true}
use Rattle.std.proofs.lemmas.List.{take_more}
use Rattle.std.proofs.lemmas.List.Elements.{All-nil}
use Rattle.std.proofs.lemmas.List.Sorted.{ranks_by, sorted_far}
use Rattle.net_core.specs.Network.{numbers_below}
use Rattle.counts.specs.Counting.{counts_of}
use Rattle.counts.specs.Inside.Counting.{Among, AreCounts, Each, Rising, with_one}
use Rattle.counts.proofs.Counting.{IsCounting, counts-none, one_more}

pub Each-append : {K : Type 0} (P : K → Type 0) (xs ys : List K) → Each P xs → Each P ys → Each P (xs ++ ys)
Each-append P [] ys a b = b
Each-append P (x ∷ xs) ys a b = (a.0, Each-append P xs ys a.1 b)

pub Each-both : {K : Type 0} (P Q R : K → Type 0) → ((x : K) → P x → Q x → R x) → (xs : List K) → Each P xs → Each Q xs → Each R xs
Each-both P Q R f [] a b = tt
Each-both P Q R f (x ∷ xs) a b = (f x a.0 b.0, Each-both P Q R f xs a.1 b.1)

pub Each-always : {K : Type 0} (P : K → Type 0) → ((x : K) → P x) → (xs : List K) → Each P xs
Each-always P f [] = tt
Each-always P f (x ∷ xs) = (f x, Each-always P f xs)

pub Each-map : {J K : Type 0} (P : K → Type 0) (f : J → K) → ((j : J) → P (f j)) → (js : List J) → Each P (map f js)
Each-map P f h [] = tt
Each-map P f h (j ∷ js) = (h j, Each-map P f h js)

pub Each-map_of : {J K : Type 0} (Q : J → Type 0) (P : K → Type 0) (f : J → K) → ((j : J) → Q j → P (f j)) → (js : List J) → Each Q js → Each P (map f js)
Each-map_of Q P f h [] all = tt
Each-map_of Q P f h (j ∷ js) all = (h j all.0, Each-map_of Q P f h js all.1)

pub Each-flat : {J K : Type 0} (P : K → Type 0) (f : J → List K) → ((j : J) → Each P (f j)) → (js : List J) → Each P (flat_map f js)
Each-flat P f h [] = tt
Each-flat P f h (j ∷ js) = Each-append P (f j) (flat_map f js) (h j) (Each-flat P f h js)

-- the same where the js have a property
pub Each-flat_of : {J K : Type 0} (Q : J → Type 0) (P : K → Type 0) (f : J → List K) → ((j : J) → Q j → Each P (f j)) → (js : List J) → Each Q js → Each P (flat_map f js)
Each-flat_of Q P f h [] all = tt
Each-flat_of Q P f h (j ∷ js) all = Each-append P (f j) (flat_map f js) (h j all.0) (Each-flat_of Q P f h js all.1)

pub Rising-append : {K : Type 0} (lt : K → K → Type 0) (xs ys : List K) → Rising lt xs → Rising lt ys → Each (λ x. Each (lt x) ys) xs → Rising lt (xs ++ ys)
Rising-append lt [] ys a b c = b
Rising-append lt (x ∷ xs) ys a b c = (Each-append (lt x) xs ys a.0 c.0, Rising-append lt xs ys a.1 b c.1)

pub Rising-map : {J K : Type 0} (below : J → J → Type 0) (lt : K → K → Type 0) (f : J → K) → ((i j : J) → below i j → lt (f i) (f j)) → (js : List J) → Rising below js → Rising lt (map f js)
Rising-map below lt f h [] up = tt
Rising-map {J} {K} below lt f h (j ∷ js) up = (all js up.0, Rising-map below lt f h js up.1)
  where
    all : (is : List J) → Each (below j) is → Each (lt (f j)) (map f is)
    all [] e = tt
    all (i ∷ is) e = (h j i e.0, all is e.1)

-- blocks that are in order, one after another
pub Rising-flat : {J K : Type 0} (below : J → J → Type 0) (lt : K → K → Type 0) (f : J → List K) → ((j : J) → Rising lt (f j)) → ((i j : J) → below i j → Each (λ x. Each (lt x) (f j)) (f i)) → (js : List J) → Rising below js → Rising lt (flat_map f js)
Rising-flat below lt f inner cross [] up = tt
Rising-flat {J} {K} below lt f inner cross (j ∷ js) up =
    Rising-append lt (f j) (flat_map f js) (inner j) (Rising-flat below lt f inner cross js up.1) (all js up.0)
  where
    all : (is : List J) → Each (below j) is → Each (λ x. Each (lt x) (flat_map f is)) (f j)
    all [] e = Each-always (λ x. Each (lt x) (flat_map f [])) (λ x. tt) (f j)
    all (i ∷ is) e =
        Each-both (λ x. Each (lt x) (f i)) (λ x. Each (lt x) (flat_map f is)) (λ x. Each (lt x) (flat_map f (i ∷ is)))
        (λ x a b. Each-append (lt x) (f i) (flat_map f is) a b) (f j) (cross j i e.0) (all is e.1)

-- the numbers below a bound
from_on : (from n low : ℕ) → low < from → Each (λ y. low < y) (range_with_len from n)
from_on from zero low h = tt
from_on from (suc n) low h = (h, from_on (from + 1) n low (omega (arith, h)))

rising_from : (from n : ℕ) → Rising (λ i j. i < j) (range_with_len from n)
rising_from from zero = tt
rising_from from (suc n) = (from_on (from + 1) n from (omega arith), rising_from (from + 1) n)

pub numbers-rise : (n : ℕ) → Rising (λ i j. i < j) (numbers_below n)
numbers-rise n = rising_from 0 n

among_from : (from n x : ℕ) → from ≤ x → x < from + n → Among x (range_with_len from n)
among_from from zero x low high = absurd (omega (arith, low, high))
among_from from (suc n) x low high = by (same_or_below from x low) (λ h. among_from (from + 1) n x h (omega (arith, high)))
  where
    same_or_below : (a b : ℕ) → a ≤ b → (a ≡ b) ⊎ (a + 1 ≤ b)
    same_or_below a b h = by_cases (cases_lt a b)
      where
        by_cases : (a < b) ⊎ (b ≤ a) → (a ≡ b) ⊎ (a + 1 ≤ b)
        by_cases (inl l) = inr (omega (arith, l))
        by_cases (inr l) = inl (omega (arith, l, h))

    by : (from ≡ x) ⊎ (from + 1 ≤ x) → (from + 1 ≤ x → Among x (range_with_len (from + 1) n)) → (from ≡ x) ⊎ Among x (range_with_len (from + 1) n)
    by (inl e) ih = inl e
    by (inr h) ih = inr (ih h)

pub among_numbers : (n x : ℕ) → x < n → Among x (numbers_below n)
among_numbers n x h = among_from 0 n x (omega arith) (omega (arith, h))

pub Among-map : {J K : Type 0} (f : J → K) (x : J) (js : List J) → Among x js → Among (f x) (map f js)
Among-map f x [] there = absurd there
Among-map f x (j ∷ js) (inl e) = inl (ap f e)
Among-map f x (j ∷ js) (inr there) = inr (Among-map f x js there)

Among-left : {K : Type 0} (x : K) (xs ys : List K) → Among x xs → Among x (xs ++ ys)
Among-left x [] ys there = absurd there
Among-left x (k ∷ xs) ys (inl e) = inl e
Among-left x (k ∷ xs) ys (inr there) = inr (Among-left x xs ys there)

Among-right : {K : Type 0} (x : K) (xs ys : List K) → Among x ys → Among x (xs ++ ys)
Among-right x [] ys there = there
Among-right x (k ∷ xs) ys there = inr (Among-right x xs ys there)

pub Among-flat : {J K : Type 0} (f : J → List K) (x : K) (i : J) (js : List J) → Among i js → Among x (f i) → Among x (flat_map f js)
Among-flat f x i [] there inside = absurd there
Among-flat f x i (j ∷ js) (inl e) inside = Among-left x (f j) (flat_map f js) (subst (λ z. Among x (f z)) (sym e) inside)
Among-flat f x i (j ∷ js) (inr there) inside = Among-right x (f j) (flat_map f js) (Among-flat f x i js there inside)

each_take : {K : Type 0} (P : K → Type 0) (d : K) (xs : List K) (i : ℕ) → i ≤ length xs → ((j : ℕ) → j < i → P (get_or xs j d)) → Each P (take i xs)
each_take P d [] zero h f = tt
each_take P d [] (suc i) h f = absurd (omega (arith, h))
each_take P d (x ∷ xs) zero h f = tt
each_take P d (x ∷ xs) (suc i) h f = (f 0 (omega arith), each_take P d xs i (omega (arith, h)) (λ j b. f (suc j) (omega (arith, b))))

-- nothing that stands before an element of a sorted list is above it
none_above : {K : Type 0} (order : K → K → Ordering) → IsTotalOrder order → (xs : List K) (i : ℕ) (x d : K) → i < length xs → x ≡ get_or xs i d → IsSorted order xs → Each (λ y. is_lt (order x y) ≡ true → ⊥) (take i xs)
none_above {K} order total xs i x d h is up =
    each_take (λ y. is_lt (order x y) ≡ true → ⊥) d xs i (omega (arith, h)) each
  where
    each : (j : ℕ) → j < i → is_lt (order x (get_or xs j d)) ≡ true → ⊥
    each j b e =
        false≢true (sym (subst (λ z. is_lt (order z (get_or xs j d)) ≡ false) (sym is) (sorted_far (λ a c. is_lt (order a c)) (ranks_by total (λ z. z)) xs up j i d (omega (arith, b)) h)) ∙ e)

-- before the first key nothing is counted
pub counted_none : {K C : Type 0} (order : K → K → Ordering) (is : K → K → Bool) (count : K → ℕ → C) (vehicles : C → ℕ) (xs : List K) (counts : List C) → counts ≡ [] → AreCounts order is count xs [] counts × All (λ c. vehicles c ≤ 0) counts
counted_none order is count vehicles xs counts e = (
  λ keys up all. e ∙ sym (counts-none count (λ k. count_by (is k) []) keys (Each-always (λ k. count_by (is k) [] ≡ 0) (λ k. refl) keys)),
  subst (λ L. All (λ c. vehicles c ≤ 0) L) (sym e) (All-nil (λ c. vehicles c ≤ 0)),
)

-- the counts of the first keys of a sorted list, with one more key
pub counted_more : {K C : Type 0} {order : K → K → Ordering} {is : K → K → Bool} {count : K → ℕ → C} {same : K → C → Bool} {grown : C → C} (laws : IsCounting order is count same grown) (xs : List K) (i : ℕ) (x d : K) (counts new : List C) → i < length xs → x ≡ get_or xs i d → IsSorted order xs
    → AreCounts order is count xs (take i xs) counts → new ≡ with_one (same x) grown (count x 1) counts → AreCounts order is count xs (take (i + 1) xs) new
counted_more {K} {C} {order} {is} {count} {same} {grown} laws xs i x d counts new h at up had more keys rise all =
    more ∙ ap (with_one (same x) grown (count x 1)) (had keys rise all)
    ∙ sym (one_more laws x (take i xs) (none_above order laws.total xs i x d h at up) keys rise (subst (λ z. Among z keys) (sym at) (all i d h)))
    ∙ ap (λ L. counts_of count (λ z. count_by (is z) L) keys) (sym (take_more xs i d h ∙ ap (λ z. take i xs ++ z ∷ []) (sym at)))
