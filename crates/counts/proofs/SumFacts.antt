-- Sums over the first vehicles.
use Rattle.std.specs.List.{sum_by}
use Rattle.std.proofs.Common.{◌≡◌, ℕ, suc, ◌+◌, arith, ap, ◌∙◌}
use Rattle.std.proofs.lemmas.List.Sums.{sum_by_push}
use Rattle.net_core.specs.Network.{numbers_below}
use Rattle.net_core.proofs.Numbers.{numbers_more}

-- one vehicle more
pub sum_next : (f : ℕ → ℕ) (n m : ℕ) → m ≡ suc n → sum_by f (numbers_below m) ≡ sum_by f (numbers_below n) + f n
sum_next f n m e =
    let next : m ≡ n + 1 = omega (arith, e) in
    ap (λ k. sum_by f (numbers_below k)) next ∙ ap (sum_by f) (numbers_more n) ∙ sum_by_push f (numbers_below n) n
