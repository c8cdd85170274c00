-- Means, rounded up.
use Rattle.std.specs.Prelude.{All, take}
use Rattle.std.specs.Int.{div_ceil}
use Rattle.std.proofs.Common.{◌⊎◌, inl, inr, ℕ, ◌+◌, ◌*◌, ◌<◌, ◌≤◌, List, length, arith, get_or, sym, subst}
use Rattle.std.proofs.lemmas.Bool.{cases_lt}
use Rattle.std.proofs.lemmas.Grind.{div_ceil_times}
use Rattle.std.proofs.lemmas.List.{take_all, take_more}
use Rattle.std.proofs.lemmas.List.Elements.{All-push}
use Rattle.dta_model.specs.declared.loading.TheConstants.{MOST_HORIZON}
use Rattle.link_times.proofs.Places.{product_le}

pub mean_least : (s n : ℕ) → 1 ≤ n → n ≤ s → 1 ≤ div_ceil s n
mean_least s n some h = by (cases_lt 0 (div_ceil s n))
  where
    by : (0 < div_ceil s n) ⊎ (div_ceil s n ≤ 0) → 1 ≤ div_ceil s n
    by (inl k) = k
    by (inr k) = let a = (div_ceil_times s n some).0 in let c = product_le (div_ceil s n) 0 n k in absurd (omega (arith, a, c, h, some))

pub mean_most : (s n : ℕ) → 1 ≤ n → s ≤ n * MOST_HORIZON → div_ceil s n ≤ MOST_HORIZON
mean_most s n some h = by (cases_lt MOST_HORIZON (div_ceil s n))
  where
    by : (MOST_HORIZON < div_ceil s n) ⊎ (div_ceil s n ≤ MOST_HORIZON) → div_ceil s n ≤ MOST_HORIZON
    by (inr k) = k
    by (inl k) = let a = (div_ceil_times s n some).1 in let c = product_le (MOST_HORIZON + 1) (div_ceil s n) n (omega (arith, k)) in absurd (omega (arith, a, c, h))

-- what is true of the first numbers
pub all_more : (most : ℕ) (xs : List ℕ) (i d : ℕ) → i < length xs → All (λ n. n < most) (take i xs) → get_or xs i d < most → All (λ n. n < most) (take (i + 1) xs)
all_more most xs i d h all one = subst (λ L. All (λ n. n < most) L) (sym (take_more xs i d h)) (All-push (λ n. n < most) (take i xs) (get_or xs i d) all one)

pub all_whole : (most : ℕ) (xs : List ℕ) (i : ℕ) → length xs ≤ i → All (λ n. n < most) (take i xs) → All (λ n. n < most) xs
all_whole most xs i h all = subst (λ L. All (λ n. n < most) L) (take_all i xs h) all
