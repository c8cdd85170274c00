-- One more number after those below it.
use Rattle.std.proofs.Common.{◌≡◌, ℕ, zero, suc, ◌+◌, [], ◌∷◌, ◌++◌, ap, ◌∙◌, arith}
use Rattle.std.specs.List.{range_with_len}
use Rattle.net_core.specs.Network.{numbers_below}

pub numbers_grow : (a n j : ℕ) → a + n ≡ j
    → range_with_len a (suc n) ≡ range_with_len a n ++ j ∷ []
numbers_grow a zero j h = let same : a ≡ j = omega (arith, h) in ap (λ x. x ∷ []) same
numbers_grow a (suc n) j h = ap (λ l. a ∷ l) (numbers_grow (a + 1) n j (omega (arith, h)))

pub numbers_more : (n : ℕ) → numbers_below (n + 1) ≡ numbers_below n ++ n ∷ []
numbers_more n =
    let next : n + 1 ≡ suc n = omega arith in
    ap (λ m. numbers_below m) next ∙ numbers_grow 0 n n (omega arith)
