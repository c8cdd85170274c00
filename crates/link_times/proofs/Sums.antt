-- Sums over the visits of a trace, vehicle by vehicle.
use Rattle.std.specs.Prelude.{slice_get, All, ◌≢◌, filter, find, sum_by, nat_eq}
use Rattle.std.proofs.Common.{◌≡◌, ℕ, zero, suc, ◌+◌, ◌/◌, ◌<◌, ◌≤◌, Bool, true, false, cond, ◌||◌, List, [], ◌∷◌, refl, ap, sym, ◌∙◌, subst, arith, Some, ◌⊎◌, inl, inr, Option}
use Rattle.std.proofs.lemmas.Bool.{cases_lt, eq-eqb, ne_eqb}
use Rattle.std.proofs.lemmas.Bool.Decides.{eqb_tells}
use Rattle.std.proofs.lemmas.List.Elements.{All-head}
use Rattle.std.proofs.lemmas.List.Sums.{sum_by-cons}
use Rattle.std.proofs.Math.Dec.{eqb}
use Rattle.dta_model.specs.declared.plan.Plan.{Plan}
use Rattle.dta_model.specs.LinkTimes.{Visit, visit, visit_time, visits, visits_in}
use Rattle.dta_model.specs.Trace.{Move, has_moved, is_of, leads_to, moves_of}
use Rattle.link_times.specs.Sums.{sum_to}

nothing_more : (a : ℕ) → a ≡ 0 + a
nothing_more a = omega arith

plain : (a : ℕ) → a ≡ a + 0
plain a = omega arith

swapped : (a c s : ℕ) → a ≡ c → a + s ≡ s + c
swapped a c s e = omega (arith, e)

-- what a move adds, by the next move of its vehicle
abbrev pub part : (Visit → ℕ) → Plan → ℕ → ℕ → ℕ → Move → Option Move → ℕ
part f p bucket l b m next = cond (leads_to l m) (cond (nat_eq (m.step / bucket) b) (f (record { entry = m.step; time = visit_time p l m.step next })) 0) 0

module _ (f : Visit → ℕ) (p : Plan) (bucket l b : ℕ) where
  abbrev pub sum_in : List Move → ℕ
  sum_in M = sum_by f (visits_in p bucket l b M)

  pub sum_in-more : (m : Move) (R : List Move) → sum_in (m ∷ R) ≡ part f p bucket l b m (find (is_of m.vehicle) R) + sum_in R
  unfolding visits_in visits
  sum_in-more m R = leads_step (leads_to l m)
    where
      here : (c : Bool) → sum_by f (cond c (visit p l m R ∷ filter (λ v. nat_eq (v.entry / bucket) b) (visits p l R)) (filter (λ v. nat_eq (v.entry / bucket) b) (visits p l R))) ≡ cond c (f (visit p l m R)) 0 + sum_by f (filter (λ v. nat_eq (v.entry / bucket) b) (visits p l R))
      here true = sum_by-cons f (visit p l m R) (filter (λ v. nat_eq (v.entry / bucket) b) (visits p l R))
      here false = nothing_more _

      leads_step : (c : Bool) → sum_by f (filter (λ v. nat_eq (v.entry / bucket) b) (cond c (visit p l m R ∷ visits p l R) (visits p l R))) ≡ cond c (cond (nat_eq (m.step / bucket) b) (f (visit p l m R)) 0) 0 + sum_by f (filter (λ v. nat_eq (v.entry / bucket) b) (visits p l R))
      leads_step true = here (nat_eq (m.step / bucket) b)
      leads_step false = nothing_more _

  pub sum_in-none : sum_in [] ≡ 0
  unfolding visits_in visits
  sum_in-none = refl

-- the next move of a vehicle among its own moves
find-own : (v : ℕ) (T : List Move) → find (is_of v) (filter (is_of v) T) ≡ find (is_of v) T
find-own v [] = refl
find-own v (m ∷ T) = own_step (eqb m.vehicle v) refl (find-own v T)
  where
    own_step : (c : Bool) → c ≡ eqb m.vehicle v → find (is_of v) (filter (is_of v) T) ≡ find (is_of v) T → find (is_of v) (cond c (m ∷ filter (is_of v) T) (filter (is_of v) T)) ≡ cond c (Some m) (find (is_of v) T)
    own_step true r ih = rw (← r) refl
    own_step false r ih = ih

pub find-first : (v : ℕ) (M : List Move) → All (λ m. m.vehicle ≡ v) M → find (is_of v) M ≡ slice_get M 0
find-first v [] all = refl
find-first v (m ∷ M) all = rw (eq-eqb m.vehicle v (All-head (λ x. x.vehicle ≡ v) m M all)) refl

pub sum_to-same : (n : ℕ) (f g : ℕ → ℕ) → ((v : ℕ) → f v ≡ g v) → sum_to n f ≡ sum_to n g
unfolding sum_to
sum_to-same zero f g h = refl
sum_to-same (suc n) f g h = let a = sum_to-same n f g h in let b = h n in omega (arith, a, b)

sum_to-zero : (n : ℕ) (f : ℕ → ℕ) → ((v : ℕ) → f v ≡ 0) → sum_to n f ≡ 0
unfolding sum_to
sum_to-zero zero f h = refl
sum_to-zero (suc n) f h = let a = sum_to-zero n f h in let b = h n in omega (arith, a, b)

-- one of them grows
sum_to-past : (n w x : ℕ) (f : ℕ → ℕ) → n ≤ w → sum_to n (λ v. f v + cond (nat_eq w v) x 0) ≡ sum_to n f
unfolding sum_to
sum_to-past zero w x f h = refl
sum_to-past (suc n) w x f h =
    let a = sum_to-past n w x f (omega (arith, h)) in
    let b : cond (nat_eq w n) x 0 ≡ 0 = rw (ne_eqb w n (λ e. absurd (omega (arith, h, e)))) refl in
    omega (arith, a, b)

sum_to-more : (n w x : ℕ) (f : ℕ → ℕ) → w < n → sum_to n (λ v. f v + cond (nat_eq w v) x 0) ≡ sum_to n f + x
unfolding sum_to
sum_to-more zero w x f h = absurd (omega (arith, h))
sum_to-more (suc n) w x f h = by (eqb_tells w n) (λ k. sum_to-more n w x f k)
  where
    below : (a c : ℕ) → a < suc c → a ≢ c → a < c
    below a c h n = grind arith

    by : ((eqb w n ≡ true) × (w ≡ n)) ⊎ ((eqb w n ≡ false) × (w ≢ n)) → (w < n → sum_to n (λ v. f v + cond (nat_eq w v) x 0) ≡ sum_to n f + x) → sum_to n (λ v. f v + cond (nat_eq w v) x 0) + (f n + cond (nat_eq w n) x 0) ≡ sum_to n f + f n + x
    by (inl (t, same)) ih =
        let a = sum_to-past n w x f (omega (arith, same)) in
        let b : cond (nat_eq w n) x 0 ≡ x = rw t refl in
        omega (arith, a, b)
    by (inr (t, other)) ih =
        let a = ih (below w n h other) in
        let b : cond (nat_eq w n) x 0 ≡ 0 = rw t refl in
        omega (arith, a, b)

module _ (f : Visit → ℕ) (p : Plan) (bucket l b : ℕ) where
  one_vehicle : (m : Move) (T : List Move) (v : ℕ) → sum_in f p bucket l b (moves_of v (m ∷ T)) ≡ sum_in f p bucket l b (moves_of v T) + cond (nat_eq m.vehicle v) (part f p bucket l b m (find (is_of m.vehicle) T)) 0
  unfolding moves_of
  one_vehicle m T v = by (eqb_tells m.vehicle v)
    where
      by : ((eqb m.vehicle v ≡ true) × (m.vehicle ≡ v)) ⊎ ((eqb m.vehicle v ≡ false) × (m.vehicle ≢ v)) → sum_in f p bucket l b (cond (eqb m.vehicle v) (m ∷ moves_of v T) (moves_of v T)) ≡ sum_in f p bucket l b (moves_of v T) + cond (eqb m.vehicle v) (part f p bucket l b m (find (is_of m.vehicle) T)) 0
      by (inl (t, same)) =
          let next : find (is_of m.vehicle) (moves_of v T) ≡ find (is_of m.vehicle) T = subst (λ w. find (is_of m.vehicle) (filter (is_of w) T) ≡ find (is_of m.vehicle) T) same (find-own m.vehicle T) in
          let more = sum_in-more f p bucket l b m (moves_of v T) in
          let x : part f p bucket l b m (find (is_of m.vehicle) (moves_of v T)) ≡ part f p bucket l b m (find (is_of m.vehicle) T) = ap (λ o. part f p bucket l b m o) next in
          rw t (more ∙ swapped _ _ _ x)
      by (inr (t, other)) = rw t (plain _)

  -- a sum over all visits is a sum over vehicles
  pub over_vehicles : (n : ℕ) (T : List Move) → ((v : ℕ) → n ≤ v → has_moved v T ≡ false) → sum_to n (λ v. sum_in f p bucket l b (moves_of v T)) ≡ sum_in f p bucket l b T
  unfolding has_moved moves_of
  over_vehicles n [] none = sum_to-zero n (λ v. sum_in f p bucket l b (moves_of v [])) (λ v. nothing v) ∙ sym (sum_in-none f p bucket l b)
    where
      nothing : (v : ℕ) → sum_in f p bucket l b (moves_of v []) ≡ 0
      nothing v = sum_in-none f p bucket l b
  over_vehicles n (m ∷ T) none =
      let x = part f p bucket l b m (find (is_of m.vehicle) T) in
      let rest = over_vehicles n T (λ v h. right_part _ _ (none v h)) in
      sum_to-same n (λ v. sum_in f p bucket l b (moves_of v (m ∷ T))) (λ v. sum_in f p bucket l b (moves_of v T) + cond (nat_eq m.vehicle v) x 0) (one_vehicle m T)
      ∙ sum_to-more n m.vehicle x (λ v. sum_in f p bucket l b (moves_of v T)) (inside (cases_lt m.vehicle n))
      ∙ swapped _ _ _ rest ∙ sym (sum_in-more f p bucket l b m T)
    where
      right_part : (c d : Bool) → (c || d) ≡ false → d ≡ false
      right_part true d h = cc
      right_part false d h = h

      left_part : (c d : Bool) → (c || d) ≡ false → c ≡ false
      left_part true d h = cc
      left_part false d h = refl

      inside : (m.vehicle < n) ⊎ (n ≤ m.vehicle) → m.vehicle < n
      inside (inl h) = h
      inside (inr h) = let clash : true ≡ false = sym (eq-eqb m.vehicle m.vehicle refl) ∙ left_part _ _ (none m.vehicle h) in cc
