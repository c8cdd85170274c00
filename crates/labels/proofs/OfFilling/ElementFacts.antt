-- Slots that are elements of a vector.
use Rattle.std.proofs.Common.{◌≡◌, ◌⊎◌, inl, inr, ◌∙◌, ℕ, ◌+◌, ◌-◌, ◌^◌, ◌<◌, ◌≤◌, false, cond, min, ltb, List, length, map, ap, arith, get_or}
use Rattle.std.specs.Prelude.{replicate}
use Rattle.std.proofs.lemmas.Bool.{cases_lt}
use Rattle.std.proofs.lemmas.Bool.Decides.{nat_tests}
use Rattle.std.proofs.lemmas.List.{get_or-replicate, get_or_past, length-replicate}
use Rattle.std.proofs.lemmas.Simd.{get_or-sel_l, get_or-zip2, length-sel_l, length-zip2, tops_compared}
use lib.Lanes.{sel_l, top, zip2}
use mir.Syntax.{Width}
use mir.Val.{bits, hbits}

lesser : (x y : ℕ) → cond (ltb x y) x y ≡ min x y
lesser x y = by (cases_lt x y)
  where
    by : (x < y) ⊎ (y ≤ x) → cond (ltb x y) x y ≡ min x y
    by (inl h) = grind (arith, nat_tests)
    by (inr h) = grind (arith, nat_tests)

-- a time added to each element
abbrev pub later : ℕ → List ℕ → ℕ → List ℕ
later n ys t = zip2 (λ a b. a + b) ys (replicate n t)

-- the lesser elements of two vectors
abbrev pub lesser_elements : Width → List ℕ → List ℕ → List ℕ
lesser_elements w xs ys = sel_l (map (top (hbits w)) (zip2 (λ a b. cond (ltb a b) (2 ^ bits w - 1) 0) xs ys)) xs ys

module _ (w : Width) (n : ℕ) (xs ys : List ℕ) (t : ℕ) (many : length xs ≡ n) (as_many : length ys ≡ n) where
  sums : length (later n ys t) ≡ n
  sums = length-zip2 (λ a b. a + b) ys (replicate n t) (let m = length-replicate n t in omega (arith, m, as_many)) ∙ as_many

  sum_at : (j : ℕ) → j < n → get_or (later n ys t) j 0 ≡ get_or ys j 0 + t
  sum_at j h =
      let m = length-replicate n t in
      get_or-zip2 (λ a b. a + b) ys (replicate n t) j 0 0 0 (omega (arith, h, as_many)) (omega (arith, h, m)) ∙ ap (λ x. get_or ys j 0 + x) (get_or-replicate n j t 0 h)

  pub lesser_many : length (lesser_elements w xs (later n ys t)) ≡ n
  lesser_many =
      let zs = later n ys t in
      let long = length-zip2 ltb xs zs (omega (arith, many, sums)) in
      ap (λ ms. length (sel_l ms xs zs)) (tops_compared w ltb xs zs) ∙ length-sel_l (zip2 ltb xs zs) xs zs (omega (arith, long)) (omega (arith, long, many, sums)) ∙ long ∙ many

  pub lesser_at : (j : ℕ) → j < n → get_or (lesser_elements w xs (later n ys t)) j 0 ≡ min (get_or xs j 0) (get_or ys j 0 + t)
  lesser_at j h =
      let zs = later n ys t in
      let long = length-zip2 ltb xs zs (omega (arith, many, sums)) in
      ap (λ ms. get_or (sel_l ms xs zs) j 0) (tops_compared w ltb xs zs)
      ∙ get_or-sel_l (zip2 ltb xs zs) xs zs j 0 (omega (arith, h, long, many)) (omega (arith, h, many)) (omega (arith, h, sums))
      ∙ ap (λ b. cond b (get_or xs j 0) (get_or zs j 0)) (get_or-zip2 ltb xs zs j 0 0 false (omega (arith, h, many)) (omega (arith, h, sums)))
      ∙ lesser (get_or xs j 0) (get_or zs j 0) ∙ ap (λ z. min (get_or xs j 0) z) (sum_at j h)

  pub lesser_low : (beyond : ℕ) → ((j : ℕ) → get_or xs j 0 ≤ beyond) → (j : ℕ) → get_or (lesser_elements w xs (later n ys t)) j 0 ≤ beyond
  lesser_low beyond low j = by (cases_lt j n)
    where
      by : (j < n) ⊎ (n ≤ j) → get_or (lesser_elements w xs (later n ys t)) j 0 ≤ beyond
      by (inl h) = let is = lesser_at j h in omega (arith, is, low j)
      by (inr h) = let is = get_or_past (lesser_elements w xs (later n ys t)) j 0 (omega (arith, h, lesser_many)) in omega (arith, is)
