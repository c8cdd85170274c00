-- Visits to a link end in the order of entry.
use Rattle.std.specs.List.{list_any}
use Rattle.std.specs.Prelude.{slice_get, All, ◌≢◌}
use Rattle.std.proofs.Common.{◌≡◌, ℕ, zero, suc, ◌<◌, ◌≤◌, true, false, cond, List, [], ◌∷◌, ◌++◌, length, refl, ap, sym, ◌∙◌, subst, arith, append_assoc, Some, ◌⊎◌, inl, inr}
use Rattle.std.proofs.lemmas.Bool.Decides.{eqb_tells}
use Rattle.std.proofs.lemmas.List.Elements.{All-head, All-tail}
use Rattle.std.proofs.Math.Dec.{eqb}
use Rattle.dta_model.specs.declared.plan.Plan.{Plan}
use Rattle.dta_model.specs.Laws.{VisitsEndInOrder}
use Rattle.dta_model.specs.Loading.{trace_after}
use Rattle.dta_model.specs.Trace.{Move, has_moved, leads_to, moves_of}
use Rattle.dta_model.proofs.Pushes.{moves_of-append, has_moved_is}
use Rattle.dta_model.proofs.InOrder.{left_in_order}
use Rattle.dta_model.proofs.Journeys.{steps_rise}

-- a list cut at the i-th move of a vehicle
record Cut (v i : ℕ) (T : List Move) (a : Move) : Type 0 where
  front : List Move
  back : List Move
  is : T ≡ front ++ a ∷ back
  own : a.vehicle ≡ v
  count : length (moves_of v front) ≡ i

cut_at : (v : ℕ) (T : List Move) (i : ℕ) (a : Move) → slice_get (moves_of v T) i ≡ Some a → Cut v i T a
unfolding moves_of
cut_at v [] i a h = cc
cut_at v (x ∷ T) i a h = cut_step (eqb_tells x.vehicle v) i h (cut_at v T)
  where
    some_move : (a b : Move) → Some a ≡ Some b → a ≡ b
    some_move a b e = cc

    cut_step : ((eqb x.vehicle v ≡ true) × (x.vehicle ≡ v)) ⊎ ((eqb x.vehicle v ≡ false) × (x.vehicle ≢ v)) → (k : ℕ) → slice_get (cond (eqb x.vehicle v) (x ∷ moves_of v T) (moves_of v T)) k ≡ Some a → ((j : ℕ) (b : Move) → slice_get (moves_of v T) j ≡ Some b → Cut v j T b) → Cut v k (x ∷ T) a
    cut_step (inl (s, same)) zero e ih =
        let first : x ≡ a = some_move x a (sym (ap (λ c. slice_get (cond c (x ∷ moves_of v T) (moves_of v T)) 0) s) ∙ e) in
        record { front = []; back = T; is = ap (λ y. y ∷ T) first; own = subst (λ y. y.vehicle ≡ v) first same; count = refl }
    cut_step (inl (s, same)) (suc k) e ih =
        let r = ih k a (sym (ap (λ c. slice_get (cond c (x ∷ moves_of v T) (moves_of v T)) (suc k)) s) ∙ e) in
        record { front = x ∷ r.front; back = r.back; is = ap (λ L. x ∷ L) r.is; own = r.own; count = ap (λ c. length (cond c (x ∷ moves_of v r.front) (moves_of v r.front))) s ∙ ap suc r.count }
    cut_step (inr (s, other)) k e ih =
        let r = ih k a (sym (ap (λ c. slice_get (cond c (x ∷ moves_of v T) (moves_of v T)) k) s) ∙ e) in
        record { front = x ∷ r.front; back = r.back; is = ap (λ L. x ∷ L) r.is; own = r.own; count = ap (λ c. length (cond c (x ∷ moves_of v r.front) (moves_of v r.front))) s ∙ r.count }

-- two cuts of one list
data Order (a b : Move) (R S : List Move) : Type 0 where
  earlier : (B : List Move) → R ≡ B ++ b ∷ S → Order a b R S
  same_one : a ≡ b → Order a b R S
  afterwards : (B : List Move) → S ≡ B ++ a ∷ R → Order a b R S

order_of : (A D R S : List Move) (a b : Move) → A ++ a ∷ R ≡ D ++ b ∷ S → Order a b R S
order_of [] [] R S a b h = same_one (first_same h)
  where
    first_same : a ∷ R ≡ b ∷ S → a ≡ b
    first_same h = cc
order_of [] (y ∷ D) R S a b h = earlier D (rest_same h)
  where
    rest_same : a ∷ R ≡ y ∷ (D ++ b ∷ S) → R ≡ D ++ b ∷ S
    rest_same h = cc
order_of (x ∷ A) [] R S a b h = afterwards A (rest_same h)
  where
    rest_same : x ∷ (A ++ a ∷ R) ≡ b ∷ S → S ≡ A ++ a ∷ R
    rest_same h = cc
order_of (x ∷ A) (y ∷ D) R S a b h = order_of A D R S a b (rest_same x y (A ++ a ∷ R) (D ++ b ∷ S) h)
  where
    rest_same : (x y : Move) (K L : List Move) → x ∷ K ≡ y ∷ L → K ≡ L
    rest_same x y K L h = cc

all_middle : (P : Move → Type 0) (Y R : List Move) (b : Move) → All P (Y ++ b ∷ R) → P b
all_middle P [] R b h = All-head P b R h
all_middle P (y ∷ Y) R b h = all_middle P Y R b (All-tail P y (Y ++ b ∷ R) h)

-- what stands after the i-th
get_after : (xs : List Move) (a : Move) (ys : List Move) (i : ℕ) → length xs ≡ i → slice_get (xs ++ a ∷ ys) (suc i) ≡ slice_get ys 0
get_after [] a ys zero h = refl
get_after [] a ys (suc i) h = absurd (omega (arith, h))
get_after (x ∷ xs) a ys zero h = absurd (omega (arith, h))
get_after (x ∷ xs) a ys (suc i) h = get_after xs a ys i (omega (arith, h))

own_first : (v : ℕ) (a : Move) (R : List Move) → a.vehicle ≡ v → moves_of v (a ∷ R) ≡ a ∷ moves_of v R
unfolding moves_of
own_first v a R same = own_step (eqb_tells a.vehicle v)
  where
    own_step : ((eqb a.vehicle v ≡ true) × (a.vehicle ≡ v)) ⊎ ((eqb a.vehicle v ≡ false) × (a.vehicle ≢ v)) → cond (eqb a.vehicle v) (a ∷ moves_of v R) (moves_of v R) ≡ a ∷ moves_of v R
    own_step (inl (s, e)) = rw s refl
    own_step (inr (s, other)) = absurd (other same)

-- the next move of a vehicle is the first one behind the cut
next_after : (v i : ℕ) (T : List Move) (a : Move) (c : Cut v i T a) → slice_get (moves_of v T) (suc i) ≡ slice_get (moves_of v c.back) 0
next_after v i T a c =
    ap (λ L. slice_get L (suc i)) (ap (λ L. moves_of v L) c.is ∙ moves_of-append v c.front (a ∷ c.back) ∙ ap (λ L. moves_of v c.front ++ L) (own_first v a c.back c.own))
    ∙ get_after (moves_of v c.front) a (moves_of v c.back) i c.count

none_counted : (v : ℕ) (C : List Move) → length (moves_of v C) ≡ 0 → has_moved v C ≡ false
none_counted v C h = has_moved_is v C ∙ ap (λ L. list_any (λ _. true) L) (empty_list (moves_of v C) h)
  where
    empty_list : (L : List Move) → length L ≡ 0 → L ≡ []
    empty_list [] h = refl
    empty_list (x ∷ L) h = absurd (omega (arith, h))

first_mover : (v : ℕ) (L : List Move) → has_moved v L ≡ true → (d : Move) × (slice_get (moves_of v L) 0 ≡ Some d)
first_mover v L h = some_first (moves_of v L) (sym (has_moved_is v L) ∙ h)
  where
    some_first : (K : List Move) → list_any (λ _. true) K ≡ true → (d : Move) × (slice_get K 0 ≡ Some d)
    some_first [] e = cc
    some_first (x ∷ K) e = (x, refl)

get_front : (xs ys : List Move) (d : Move) → slice_get xs 0 ≡ Some d → slice_get (xs ++ ys) 0 ≡ Some d
get_front [] ys d h = cc
get_front (x ∷ xs) ys d h = h

module _ (p : Plan) (t u v i j l : ℕ) (a b c : Move) (at_a : leads_to l a ≡ true) (at_b : leads_to l b ≡ true) (less : a.step < b.step) where
  ends_so : (ca : Cut u i (trace_after p t) a) (cb : Cut v j (trace_after p t) b) → slice_get (moves_of v cb.back) 0 ≡ Some c → Order a b ca.back cb.back → (d : Move) × (slice_get (moves_of u (trace_after p t)) (suc i) ≡ Some d) × (d.step ≤ c.step)
  ends_so ca cb h (same_one e) = absurd (not_less a.step b.step less (ap (λ m. m.step) e))
    where
      not_less : (x y : ℕ) → x < y → x ≡ y → ⊥
      not_less x y k e = omega (arith, k, e)
  ends_so ca cb h (afterwards B e) =
      let rise = (steps_rise p t cb.front cb.back b cb.is).1 in
      absurd (not_both a.step b.step less (all_middle (λ m. b.step ≤ m.step) B ca.back a (subst (λ L. All (λ m. b.step ≤ m.step) L) e rise)))
    where
      not_both : (x y : ℕ) → x < y → y ≤ x → ⊥
      not_both x y k e = omega (arith, k, e)
  ends_so ca cb h (earlier B e) =
      let cut_c = cut_at v cb.back 0 c h in
      let C : List Move = cut_c.front in
      let R : List Move = cut_c.back in
      let whole : trace_after p t ≡ ca.front ++ a ∷ (B ++ b ∷ (C ++ c ∷ R)) = ca.is ∙ ap (λ L. ca.front ++ a ∷ L) (e ∙ ap (λ L. B ++ b ∷ L) cut_c.is) in
      let still : has_moved b.vehicle C ≡ false = subst (λ w. has_moved w C ≡ false) (sym cb.own) (none_counted v C cut_c.count) in
      let moves : has_moved a.vehicle (B ++ b ∷ C) ≡ true = left_in_order p t l ca.front B C R a b c whole at_a at_b (cut_c.own ∙ sym cb.own) still in
      let f = first_mover u (B ++ b ∷ C) (subst (λ w. has_moved w (B ++ b ∷ C) ≡ true) ca.own moves) in
      let behind : ca.back ≡ (B ++ b ∷ C) ++ c ∷ R = e ∙ ap (λ L. B ++ b ∷ L) cut_c.is ∙ sym (append_assoc B (b ∷ C) (c ∷ R)) in
      let next : slice_get (moves_of u (trace_after p t)) (suc i) ≡ Some (f.0) =
      next_after u i (trace_after p t) a ca ∙ ap (λ L. slice_get L 0) (ap (λ L. moves_of u L) behind ∙ moves_of-append u (B ++ b ∷ C) (c ∷ R)) ∙ get_front (moves_of u (B ++ b ∷ C)) (moves_of u (c ∷ R)) (f.0) (f.1) in
      let cd = cut_at u (B ++ b ∷ C) 0 (f.0) (f.1) in
      let at_d : trace_after p t ≡ (ca.front ++ a ∷ cd.front) ++ f.0 ∷ (cd.back ++ c ∷ R) =
      ca.is ∙ ap (λ L. ca.front ++ a ∷ L) (behind ∙ ap (λ L. L ++ c ∷ R) cd.is ∙ append_assoc cd.front (f.0 ∷ cd.back) (c ∷ R)) ∙ sym (append_assoc ca.front (a ∷ cd.front) (f.0 ∷ (cd.back ++ c ∷ R))) in
      let rise = (steps_rise p t (ca.front ++ a ∷ cd.front) (cd.back ++ c ∷ R) (f.0) at_d).1 in
      (f.0, next, all_middle (λ m. (f.0).step ≤ m.step) cd.back R c rise)

pub visits_end_in_order : VisitsEndInOrder
visits_end_in_order p t u v i j l a b c ga gb at_a at_b less gc =
    let ca = cut_at u (trace_after p t) i a ga in
    let cb = cut_at v (trace_after p t) j b gb in
    ends_so p t u v i j l a b c at_a at_b less ca cb (sym (next_after v j (trace_after p t) b cb) ∙ gc) (order_of ca.front cb.front ca.back cb.back a b (sym ca.is ∙ cb.is))
