-- How many vehicles of a row depart over some steps of its window.
use Rattle.std.specs.Prelude.{nat_le, nat_lt, slice_get, count_by, Option, Some}
use Rattle.std.specs.List.{range_with_len}
use Rattle.std.proofs.Common.{◌≡◌, ℕ, zero, suc, ◌+◌, ◌-◌, ◌*◌, ◌/◌, ◌<◌, ◌≤◌, ◌⊎◌, inl, inr, ⊎_elim, Bool, true, false, cond, ◌&&◌, map, refl, ap, subst, arith}
use Rattle.std.proofs.lemmas.Bool.Decides.{nat_tests}
use Rattle.std.proofs.lemmas.List.Sums.{sum_by-cons}
use Rattle.std.proofs.Math.Nat.{div-lt_iff_lt-mul, le-div_iff_mul-le}
use Rattle.dta_model.specs.declared.trip.DemandCell.{DemandCell}
use Rattle.dta_model.specs.Release.{Released, departure, departure_by, released_by, vehicle_of_row, vehicles_of_row}
use Rattle.dta_model.specs.Released.{DeparturesAreEven, departing}

-- a test of a number that lies in [low, high) or doesn't
abbrev Tells : Bool → ℕ → ℕ → ℕ → Type 0
Tells b low high x = ((b ≡ true) × (low ≤ x) × (x < high)) ⊎ ((b ≡ false) × ((x < low) ⊎ (high ≤ x)))

-- numbers that grow by a stride: few of them lie in [low, high)
abbrev Few : ℕ → ℕ → ℕ → ℕ → ℕ → Type 0
Few low high stride first count = (count ≡ 0) ⊎ ((count * stride + low < high + stride) × (count * stride + first < high + stride))

few_on : (low high stride first count : ℕ) (b : Bool) → 0 < stride → Tells b low high first
    → Few low high stride (first + stride) count → Few low high stride first (cond b 1 0 + count)
few_on low high stride first count b some (inl t) (inl none) = rw (t.0, none) (inr (let a = t.1 in let c = t.2 in (omega arith, omega arith)))
few_on low high stride first count b some (inl t) (inr more) = rw t.0 (inr (let a = t.1 in let c = t.2 in let d = more.1 in let e = one_more count stride in (omega (arith, a, d, e), omega (arith, d, e))))
  where
    one_more : (n s : ℕ) → (1 + n) * s ≡ n * s + s
    one_more n s = omega arith
few_on low high stride first count b some (inr t) (inl none) = rw (t.0, none) (inl refl)
few_on low high stride first count b some (inr t) (inr more) =
    rw t.0 (⊎_elim (λ below. inr (let a = more.0 in let d = more.1 in (omega (arith, a), omega (arith, d))))
    (λ past. absurd (let d = more.1 in omega (arith, d, past))) t.1)

few_among : {X : Type 0} (p : X → Bool) (f : ℕ → X) (x : ℕ → ℕ) (low high stride bound : ℕ) → 0 < stride
    → ((j : ℕ) → x (j + 1) ≡ x j + stride) → ((j : ℕ) → j < bound → Tells (p (f j)) low high (x j))
    → (n k : ℕ) → k + n ≤ bound → Few low high stride (x k) (count_by p (map f (range_with_len k n)))
few_among p f x low high stride bound some grows tells zero k h = inl refl
few_among p f x low high stride bound some grows tells (suc n) k h =
    let ih = subst (λ y. Few low high stride y (count_by p (map f (range_with_len (k + 1) n)))) (grows k) (few_among p f x low high stride bound some grows tells n (k + 1) (omega (arith, h))) in
    rw (sum_by-cons (λ r. cond (p r) 1 0) (f k) (map f (range_with_len (k + 1) n)))
    (few_on low high stride (x k) (count_by p (map f (range_with_len (k + 1) n))) (p (f k)) some (tells k (omega (arith, h))) ih)

-- whether a number lies between two
tells_between : (a b d : ℕ) → Tells (nat_le a d && nat_lt d b) a b d
tells_between a b d = grind (arith, nat_tests)

-- a departure lies between two steps as its place in the window does
tells_of : (from n w a b x : ℕ) (p : Bool) → 0 < n → from ≤ a → a ≤ b → Tells p a b (from + x / (2 * n))
    → Tells p ((a - from) * (2 * n)) ((b - from) * (2 * n)) x
tells_of from n w a b x p some fa ab (inl t) =
    inl (let low = t.1 in let high = t.2 in (
      t.0,
      (le-div_iff_mul-le (omega (arith, some))).0 (omega (arith, low, fa)),
      (div-lt_iff_lt-mul (omega (arith, some))).0 (omega (arith, high, fa, ab)),
    ))
tells_of from n w a b x p some fa ab (inr t) =
    inr (
      t.0,
      ⊎_elim (λ below. inl ((div-lt_iff_lt-mul (omega (arith, some))).0 (omega (arith, below, fa))))
          (λ past. inr ((le-div_iff_mul-le (omega (arith, some))).0 (omega (arith, past, fa, ab)))) t.1,
    )

-- from a few to the share
share_of : (from n w a b count : ℕ) → 0 < w → from ≤ a → a ≤ b
    → (count ≡ 0) ⊎ (count * (2 * w) + (a - from) * (2 * n) < (b - from) * (2 * n) + 2 * w)
    → count * w < n * (b - a) + w
share_of from n w a b count some fa ab (inl none) = rw none (omega (arith, some))
share_of from n w a b count some fa ab (inr h) =
    let parts : b - from ≡ (a - from) + (b - a) = omega (arith, fa, ab) in
    half (a - from) (b - a) (subst (λ y. count * (2 * w) + (a - from) * (2 * n) < y * (2 * n) + 2 * w) parts h)
  where
    half : (u v : ℕ) → count * (2 * w) + u * (2 * n) < (u + v) * (2 * n) + 2 * w → count * w < n * v + w
    half u v h = omega (arith, h)

departs_in : (o : Option DemandCell) (cell : DemandCell) (n j : ℕ) → o ≡ Some cell
    → departure_by o n j ≡ cell.from + ((2 * j + 1) * (cell.to - cell.from)) / (2 * n)
unfolding departure
departs_in o cell n j at = ap (λ o. departure_by o n j) at

pub departures_are_even : DeparturesAreEven
unfolding released_by
departures_are_even cells row cell a b at some fa ab bt =
    let n = vehicles_of_row cells row in
    let w = cell.to - cell.from in
    let steps : 0 < w = omega (arith, some) in
    let f = vehicle_of_row cells row in
    let few = few_among (λ (r : Released). nat_le a r.departs && nat_lt r.departs b) f (λ j. (2 * j + 1) * w) ((a - cell.from) * (2 * n)) ((b - cell.from) * (2 * n)) (2 * w) n
    (omega (arith, steps)) (λ j. omega arith) (λ j inside.
    tells_of cell.from n w a b ((2 * j + 1) * w) _ (omega (arith, inside)) fa ab
    (subst (λ d. Tells (nat_le a (f j).departs && nat_lt (f j).departs b) a b d) (departs_in (slice_get cells row) cell n j at) (tells_between a b (f j).departs))) n 0 (omega arith) in
    share_of cell.from n w a b (departing a b (released_by cells row)) steps fa ab (⊎_elim (λ none. inl none) (λ more. inr more.0) few)
