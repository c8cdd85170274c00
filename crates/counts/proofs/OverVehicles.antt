-- The turns of a trace, vehicle by vehicle.
use Rattle.std.specs.List.{last_or, sum_by}
use Rattle.std.specs.Prelude.{◌≢◌, filter, nat_eq}
use Rattle.std.proofs.Common.{◌≡◌, ℕ, ◌+◌, ◌<◌, ◌≤◌, Bool, true, false, cond, ◌&&◌, List, [], ◌∷◌, ◌++◌, length, refl, ap, sym, ◌∙◌, subst, arith, append-nil, None, ◌⊎◌, inl, inr}
use Rattle.std.proofs.lemmas.Bool.{cases_lt, eq-eqb, or_parts}
use Rattle.std.proofs.lemmas.Bool.Decides.{eqb_tells}
use Rattle.std.proofs.Math.Dec.{eqb}
use Rattle.net_core.specs.Network.{numbers_below}
use Rattle.dta_model.specs.Trace.{Move, has_moved, is_of, leads_there, moves_of, stands_on}
use Rattle.dta_model.proofs.Pushes.{moves_of-append}
use Rattle.dta_model.proofs.Riders.{last_move_is, other_move, own_move}
use Rattle.dta_model.proofs.Totals.{sum_alike, sum_both, sum_zero, vehicle_count_one}
use Rattle.counts.specs.Turns.{takes, taking, times_taken}
use Rattle.counts.specs.declared.turns.TimedTurn.{TimedTurn}

-- how many of some moves take a turn, where others come before them
abbrev pub taken : ℕ → TimedTurn → List Move → List Move → ℕ
taken bucket t before M = length (taking bucket t before M)

pub taken-more : (bucket : ℕ) (t : TimedTurn) (before : List Move) (m : Move) (M : List Move) → taken bucket t before (m ∷ M) ≡ cond (takes bucket t before m) 1 0 + taken bucket t (before ++ m ∷ []) M
unfolding taking
taken-more bucket t before m M = by (takes bucket t before m) (taking bucket t (before ++ m ∷ []) M)
  where
    by : (b : Bool) (L : List Move) → length (cond b (m ∷ L) L) ≡ cond b 1 0 + length L
    by true L = omega arith
    by false L = omega arith

pub taken-none : (bucket : ℕ) (t : TimedTurn) (before : List Move) → taken bucket t before [] ≡ 0
unfolding taking
taken-none bucket t before = refl

taken-nobody : (bucket : ℕ) (t : TimedTurn) (before : List Move) (v : ℕ) → taken bucket t before (moves_of v []) ≡ 0
unfolding taking moves_of
taken-nobody bucket t before v = refl

-- a vehicle's moves have its own moves
moves_again : (v : ℕ) (T : List Move) → moves_of v (moves_of v T) ≡ moves_of v T
unfolding moves_of
moves_again v [] = refl
moves_again v (m ∷ T) = by (eqb m.vehicle v) refl (moves_again v T)
  where
    by : (b : Bool) → b ≡ eqb m.vehicle v → filter (is_of v) (filter (is_of v) T) ≡ filter (is_of v) T → filter (is_of v) (cond b (m ∷ filter (is_of v) T) (filter (is_of v) T)) ≡ cond b (m ∷ filter (is_of v) T) (filter (is_of v) T)
    by true r ih = rw (← r) (ap (λ L. m ∷ L) ih)
    by false r ih = ih

stands-own : (l v : ℕ) (T : List Move) → stands_on l (moves_of v T) v ≡ stands_on l T v
unfolding stands_on
stands-own l v T = ap (leads_there l) (last_move_is v (moves_of v T) ∙ ap (last_or None) (moves_again v T) ∙ sym (last_move_is v T))

takes-own : (bucket : ℕ) (t : TimedTurn) (before : List Move) (m : Move) → takes bucket t (moves_of m.vehicle before) m ≡ takes bucket t before m
unfolding takes
takes-own bucket t before m = rw (stands-own t.a m.vehicle before) refl

-- what counts where both hold
abbrev one_if : Bool → ℕ
one_if b = cond b 1 0

both_hold : (b e : Bool) → cond b (one_if e) 0 ≡ one_if (b && e)
both_hold true true = refl
both_hold true false = refl
both_hold false e = refl

module _ (bucket : ℕ) (t : TimedTurn) where
  -- what a move adds to the turns of a vehicle
  one_vehicle : (m : Move) (T before : List Move) (v : ℕ) → taken bucket t (moves_of v before) (moves_of v (m ∷ T)) ≡ taken bucket t (moves_of v (before ++ m ∷ [])) (moves_of v T) + cond (nat_eq m.vehicle v) (cond (takes bucket t before m) 1 0) 0
  unfolding moves_of
  one_vehicle m T before v = by (eqb_tells m.vehicle v)
    where
      here : (c : Bool) → c ≡ eqb m.vehicle v → moves_of v (m ∷ T) ≡ cond c (m ∷ moves_of v T) (moves_of v T)
      here c e = rw e refl

      swapped : (a b c : ℕ) → a ≡ b → a + c ≡ c + b
      swapped a b c e = omega (arith, e)

      nothing_more : (a : ℕ) → a ≡ a + 0
      nothing_more a = omega arith

      own : m.vehicle ≡ v → takes bucket t (moves_of v before) m ≡ takes bucket t before m
      own e = subst (λ w. takes bucket t (moves_of w before) m ≡ takes bucket t before m) e (takes-own bucket t before m)

      by : ((eqb m.vehicle v ≡ true) × (m.vehicle ≡ v)) ⊎ ((eqb m.vehicle v ≡ false) × (m.vehicle ≢ v)) → taken bucket t (moves_of v before) (moves_of v (m ∷ T)) ≡ taken bucket t (moves_of v (before ++ m ∷ [])) (moves_of v T) + cond (eqb m.vehicle v) (cond (takes bucket t before m) 1 0) 0
      by (inl (e, same)) =
          ap (taken bucket t (moves_of v before)) (here true (sym e))
          ∙ taken-more bucket t (moves_of v before) m (moves_of v T)
          ∙ ap (λ L. cond (takes bucket t (moves_of v before) m) 1 0 + taken bucket t L (moves_of v T)) (sym (moves_of-append v before (m ∷ []) ∙ ap (λ L. moves_of v before ++ L) (own_move v m same)))
          ∙ swapped _ _ _ (ap (λ b. cond b 1 0) (own same))
          ∙ sym (ap (λ b. taken bucket t (moves_of v (before ++ m ∷ [])) (moves_of v T) + cond b (cond (takes bucket t before m) 1 0) 0) e)
      by (inr (e, other)) =
          ap (taken bucket t (moves_of v before)) (here false (sym e))
          ∙ ap (λ L. taken bucket t L (moves_of v T)) (sym (moves_of-append v before (m ∷ []) ∙ ap (λ L. moves_of v before ++ L) (other_move v m other) ∙ append-nil (moves_of v before)))
          ∙ nothing_more _
          ∙ sym (ap (λ b. taken bucket t (moves_of v (before ++ m ∷ [])) (moves_of v T) + cond b (cond (takes bucket t before m) 1 0) 0) e)

  -- the turns of a trace are those of its vehicles
  over_all : (n : ℕ) (T before : List Move) → ((v : ℕ) → n ≤ v → has_moved v T ≡ false) → sum_by (λ v. taken bucket t (moves_of v before) (moves_of v T)) (numbers_below n) ≡ taken bucket t before T
  unfolding has_moved
  over_all n [] before none =
      sum_alike (λ v. taken bucket t (moves_of v before) (moves_of v [])) (λ v. 0) (λ v. taken-nobody bucket t (moves_of v before) v) (numbers_below n)
      ∙ sum_zero n 0 ∙ sym (taken-none bucket t before)
  over_all n (m ∷ T) before none =
      let e : Bool = takes bucket t before m in
      let after : ℕ → ℕ = λ v. taken bucket t (moves_of v (before ++ m ∷ [])) (moves_of v T) in
      let rest = over_all n T (before ++ m ∷ []) (λ v h. (or_parts _ _ (none v h)).1) in
      sum_alike (λ v. taken bucket t (moves_of v before) (moves_of v (m ∷ T))) (λ v. after v + cond (eqb m.vehicle v && e) 1 0)
      (λ v. one_vehicle m T before v ∙ ap (λ k. after v + k) (both_hold (eqb m.vehicle v) e)) (numbers_below n)
      ∙ sum_both after (λ v. cond (eqb m.vehicle v && e) 1 0) (numbers_below n)
      ∙ ap (λ k. sum_by after (numbers_below n) + k) (vehicle_count_one m.vehicle n e (inside (cases_lt m.vehicle n)))
      ∙ swapped _ _ _ rest ∙ sym (taken-more bucket t before m T)
    where
      swapped : (a b c : ℕ) → a ≡ b → a + c ≡ c + b
      swapped a b c e = omega (arith, e)

      inside : (m.vehicle < n) ⊎ (n ≤ m.vehicle) → m.vehicle < n
      inside (inl h) = h
      inside (inr h) = let clash : true ≡ false = sym (eq-eqb m.vehicle m.vehicle refl) ∙ (or_parts _ _ (none m.vehicle h)).0 in cc

  pub over_vehicles : (n : ℕ) (T : List Move) → ((v : ℕ) → n ≤ v → has_moved v T ≡ false) → sum_by (λ v. times_taken bucket t (moves_of v T)) (numbers_below n) ≡ times_taken bucket t T
  unfolding times_taken moves_of
  over_vehicles n T none = over_all n T [] none
