-- Lists joined from one list for each number.
use Rattle.std.specs.List.{flat_map, range_with_len}
use Rattle.std.specs.Prelude.{filter}
use Rattle.std.proofs.Common.{◌≡◌, ◌≢◌, ℕ, zero, suc, ◌+◌, ◌<◌, ◌≤◌, Bool, true, false, List, [], ◌∷◌, ◌++◌, refl, ap, ◌∙◌, arith, append-nil, ◌⊎◌, inl, inr}
use Rattle.std.proofs.lemmas.Bool.Decides.{eqb_tells}
use Rattle.std.proofs.lemmas.List.Elements.{filter-append}
use Rattle.std.proofs.Math.Dec.{eqb}

pub filter-flat : {A X : Type 0} (f : X → Bool) (g : A → List X) (xs : List A) → filter f (flat_map g xs) ≡ flat_map (λ x. filter f (g x)) xs
filter-flat f g [] = refl
filter-flat f g (x ∷ xs) = filter-append f (g x) (flat_map g xs) ∙ ap (λ L. filter f (g x) ++ L) (filter-flat f g xs)

pub apart_from : (a n : ℕ) → a < n → n ≢ a
apart_from a n l e = absurd (omega (arith, l, e))

flat_past : {X : Type 0} (g : ℕ → List X) (k from n : ℕ) → n < from → ((x : ℕ) → x ≢ n → g x ≡ []) → flat_map g (range_with_len from k) ≡ []
flat_past g zero from n l h = refl
flat_past g (suc k) from n l h = rw (h from (apart_from n from l)) (flat_past g k (from + 1) n (omega (arith, l)) h)

-- where all but one of the lists are empty
pub flat_one : {X : Type 0} (g : ℕ → List X) (k from n : ℕ) → from ≤ n → n < from + k → ((x : ℕ) → x ≢ n → g x ≡ []) → flat_map g (range_with_len from k) ≡ g n
flat_one g zero from n low high h = absurd (omega (arith, low, high))
flat_one {X} g (suc k) from n low high h = one_step (eqb_tells from n) (flat_past g k (from + 1) n) (flat_one g k (from + 1) n)
  where
    one_step : ((eqb from n ≡ true) × (from ≡ n)) ⊎ ((eqb from n ≡ false) × (from ≢ n))
        → (n < from + 1 → ((x : ℕ) → x ≢ n → g x ≡ []) → flat_map g (range_with_len (from + 1) k) ≡ [])
        → (from + 1 ≤ n → n < from + 1 + k → ((x : ℕ) → x ≢ n → g x ≡ []) → flat_map g (range_with_len (from + 1) k) ≡ g n)
        → g from ++ flat_map g (range_with_len (from + 1) k) ≡ g n
    one_step (inl (s, same)) past ih = rw (past (omega (arith, same)) h) (append-nil (g from) ∙ ap g same)
    one_step (inr (s, other)) past ih = rw (h from other) (ih (omega (arith, low, other)) (omega (arith, high)) h)
