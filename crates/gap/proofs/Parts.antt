-- The sums over shares one after another make the sum over all.
use Rattle.std.proofs.Common.{◌≡◌, ℕ, suc, ◌+◌, ◌*◌, ◌<◌, ◌≤◌, List, [], ◌∷◌, length, arith, get_or, ap, subst, ◌∙◌, min}
use Rattle.std.specs.Prelude.{sum}
use Rattle.std.proofs.lemmas.List.Sums.{sum_by-cons}
use Rattle.gap.specs.RouteTimes.{over_vehicles}
use Rattle.gap.specs.Shares.{cut_at, IsPart}

-- steps from one number to the next add up to the steps from the first to the last
steps_sum : (g : ℕ → ℕ) (rs : List ℕ) → ((i : ℕ) → i < length rs → g i + get_or rs i 0 ≡ g (i + 1)) → g 0 + sum rs ≡ g (length rs)
steps_sum g [] each = omega arith
steps_sum g (r ∷ rs) each =
    let first : g 0 + r ≡ g 1 = each 0 (omega arith) in
    let rest : g 1 + sum rs ≡ g (length rs + 1) = steps_sum (λ i. g (i + 1)) rs (λ i h. let e : suc i ≡ i + 1 = omega arith in subst (λ n. g n + get_or rs i 0 ≡ g (n + 1)) e (each (suc i) (omega (arith, h)))) in
    let next : g (length rs + 1) ≡ g (suc (length rs)) = ap g (omega arith) in
    let total = sum_by-cons (λ x. x) r rs in
    omega (arith, first, rest, next, total)

pub parts_sum : (number : ℕ → ℕ) (size count shares : ℕ) (rs : List ℕ) → length rs ≡ shares → count ≤ size * shares → ((i : ℕ) → i < shares → IsPart number size count i (get_or rs i 0)) → sum rs ≡ over_vehicles count number
parts_sum number size count shares rs many whole each =
    let all = steps_sum (λ i. over_vehicles (cut_at size count i) number) rs (λ i h. (each i (omega (arith, h, many))).0) in
    let from : over_vehicles (cut_at size count 0) number ≡ 0 = ap (λ n. over_vehicles n number) (nothing size count) in
    let last : cut_at size count (length rs) ≡ count = to_all (length rs) many in
    let to : over_vehicles (cut_at size count (length rs)) number ≡ over_vehicles count number = ap (λ n. over_vehicles n number) last in
    omega (arith, all, from, to)
  where
    nothing : (size count : ℕ) → cut_at size count 0 ≡ 0
    nothing size count = omega arith

    to_all : (n : ℕ) → n ≡ shares → cut_at size count n ≡ count
    to_all n e = ap (λ k. min (k * size) count) e ∙ low
      where
        low : min (shares * size) count ≡ count
        low = omega (arith, whole)
