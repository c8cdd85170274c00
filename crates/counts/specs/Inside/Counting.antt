-- Counts that grow by one key after another, which come in order.
use Rattle.std.specs.Ordering.{is_lt}
use Rattle.std.specs.Prelude.{◌≡◌, ℕ, Bool, true, cond, List, [], ◌∷◌, All, count_by, ⊤}
use Rattle.std.specs.declared.cmp.Ordering.{Ordering}
use Rattle.std.proofs.Common.{◌⊎◌}
use Rattle.counts.specs.Counting.{counts_of}

-- each element has a property
abbrev pub Each : {K : Type 0} → (K → Type 0) → List K → Type 0
Each P [] = ⊤
Each P (x ∷ xs) = P x × Each P xs

-- each is below those after it
abbrev pub Rising : {K : Type 0} → (K → K → Type 0) → List K → Type 0
Rising lt [] = ⊤
Rising lt (x ∷ xs) = Each (lt x) xs × Rising lt xs

abbrev pub Among : {K : Type 0} → K → List K → Type 0
Among x [] = ⊥
Among x (k ∷ keys) = (k ≡ x) ⊎ Among x keys

abbrev pub Below : {K : Type 0} → (K → K → Ordering) → K → K → Type 0
Below order x y = is_lt (order x y) ≡ true

-- the counts of some of these, by any keys in order among which all are
abbrev pub AreCounts : {K C : Type 0} → (K → K → Ordering) → (K → K → Bool) → (K → ℕ → C)
    → List K → List K → List C → Type 0
AreCounts {K} order is count all some counts =
    (keys : List K) → Rising (Below order) keys → All (λ x. Among x keys) all
    → counts ≡ counts_of count (λ k. count_by (is k) some) keys

-- counts with one more of a key: the last one grows, where it is that of the key, and else the
-- key's first comes last
abbrev pub with_one : {C : Type 0} → (C → Bool) → (C → C) → C → List C → List C
with_one same grown first [] = first ∷ []
with_one same grown first (c ∷ []) = cond (same c) (grown c ∷ []) (c ∷ first ∷ [])
with_one same grown first (c ∷ d ∷ counts) = c ∷ with_one same grown first (d ∷ counts)
