-- Sums that are cut, and sums at one place.
use Rattle.std.proofs.Common.{◌≡◌, ℕ, zero, suc, ◌*◌, ◌<◌, ◌≤◌, refl, sym, ap, ◌∙◌, subst, lt_of_not-le, arith}
use Rattle.std.proofs.lemmas.Bool.Decides.{nat_tests}
use mathlib.Core.Logic.{dite}
use native.Mathlib.Decide.{dec_le}
use Rattle.claim_core.specs.Sums.{is_at, below}

pub below_same : (f g : ℕ → ℕ) (m : ℕ) → ((x : ℕ) → x < m → f x ≡ g x) → below m f ≡ below m g
below_same f g zero h = refl
below_same f g (suc m) h = omega (arith, h m (omega arith), below_same f g m (λ x l. h x (omega arith)))

pub below_none : (f : ℕ → ℕ) (m : ℕ) → ((x : ℕ) → x < m → f x ≡ 0) → below m f ≡ 0
below_none f zero h = refl
below_none f (suc m) h = omega (arith, h m (omega arith), below_none f m (λ x l. h x (omega arith)))

pub below_cut : (f g : ℕ → ℕ) (s m : ℕ) → s ≤ m → ((x : ℕ) → x < s → f x ≡ g x) → ((x : ℕ) → s ≤ x → f x ≡ 0) → below m f ≡ below s g
below_cut f g s zero le same rest = let z : s ≡ 0 = omega arith in ap (λ n. below n g) (sym z)
below_cut f g s (suc m) le same rest = dite (dec_le s m)
    (λ low. omega (arith, rest m low, below_cut f g s m low same rest))
    (λ top. let z : suc m ≡ s = (let l : m < s = lt_of_not-le top in omega arith) in subst (λ (n : ℕ). below n f ≡ below s g) (sym z) (below_same f g s same))

pub point : (h : ℕ → ℕ) (y m : ℕ) → y < m → below m (λ x. h x * is_at x y) ≡ h y
point h y zero l = absurd (omega arith)
point h y (suc m) l = dite (dec_le m y)
    (λ top. let e : y ≡ m = omega arith in let s : is_at m y ≡ 1 = grind (arith, nat_tests) in
    let none : below m (λ x. h x * is_at x y) ≡ 0 = below_none (λ x. h x * is_at x y) m (λ x lt. (let z : is_at x y ≡ 0 = grind (arith, nat_tests) in ap (λ n. h x * n) z ∙ omega arith)) in
    let here : h m * is_at m y ≡ h m = ap (λ n. h m * n) s ∙ omega arith in omega (arith, none, here, ap h e))
    (λ low. let lt : y < m = lt_of_not-le low in let z : is_at m y ≡ 0 = grind (arith, nat_tests) in
    let here : h m * is_at m y ≡ 0 = ap (λ n. h m * n) z ∙ omega arith in omega (arith, here, point h y m lt))
