-- Counts of keys, in the order of the keys.
use Rattle.std.specs.Prelude.{ℕ, nat_lt, List, map, filter}

-- the counts of these keys, without those whose number is 0
abbrev pub counts_of : {K C : Type 0} → (K → ℕ → C) → (K → ℕ) → List K → List C
counts_of count number keys = map (λ k. count k (number k)) (filter (λ k. nat_lt 0 (number k)) keys)
