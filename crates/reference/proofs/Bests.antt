-- The best of some walks comes before each of them.
use Rattle.std.proofs.Common.{◌≡◌, inl, inr, ℕ, ◌≤◌, Bool, true, false, cond, List, [], ◌∷◌, length, refl, ap, sym, ◌∙◌, subst, arith, Option, Some, None, Ordering, Less, Equal, Greater}
use Rattle.std.specs.Prelude.{◌&&◌, ◌||◌, nat_eq, nat_lt}
use Rattle.std.specs.Cmp.{IsTotalOrder}
use Rattle.std.specs.Cmp.Lexicographic.{slice_cmp}
use Rattle.std.specs.Ordering.{is_gt, is_le, nat_cmp, on, ordering_reverse, ordering_then, then_cmp}
use Rattle.std.proofs.lemmas.Bool.Decides.{nat_tests}
use Rattle.std.proofs.lemmas.Cmp.{nat_cmp_total, nat_list_cmp_total, on_total, then_total, tied_itself, upto}
use Rattle.net_core.specs.declared.rows.NetRows.{NetRows}
use Rattle.trip_costs.specs.Timings.{Links, Timing, Trips, walk_time_by}
use Rattle.reference.specs.Search.{best_of, better, comes_before, comes_first}
use Rattle.reference.proofs.Among.{Among}

le-gt : (o : Ordering) → is_le o ≡ true → is_gt o ≡ false
le-gt Less h = refl
le-gt Equal h = refl
le-gt Greater h = cc

gt-le : (o : Ordering) → is_gt o ≡ false → is_le o ≡ true
gt-le Less h = refl
gt-le Equal h = refl
gt-le Greater h = cc

turned : (a b : Ordering) → a ≡ ordering_reverse b → is_le b ≡ false → is_le a ≡ true
turned a Less e h = cc
turned a Equal e h = cc
turned a Greater e h = rw e refl

by_two : (less same : Bool) (o : Ordering) → (less || (same && is_le o)) ≡ is_le (ordering_then (cond less Less (cond same Equal Greater)) o)
by_two true same o = refl
by_two false true o = refl
by_two false false o = refl

-- the order of walks of the same time, by either costs
abbrev tie : Timing → List ℕ → List ℕ → Ordering
tie (Links at) = slice_cmp nat_cmp
tie (Trips costs) = then_cmp (on length nat_cmp) (slice_cmp nat_cmp)

tie_total : (c : Timing) → IsTotalOrder (tie c)
tie_total (Links at) = nat_list_cmp_total
tie_total (Trips costs) = then_total (on_total length nat_cmp_total) nat_list_cmp_total

first_is : (c : Timing) (v w : List ℕ) → comes_first c v w ≡ is_le (tie c v w)
first_is (Links at) v w = refl
first_is (Trips costs) v w = by_two (nat_lt (length v) (length w)) (nat_eq (length v) (length w)) (slice_cmp nat_cmp v w)

module _ (costs : Timing) (net : NetRows) (start : ℕ) where
  abbrev order : List ℕ → List ℕ → Ordering
  order = then_cmp (on (walk_time_by costs net start) nat_cmp) (tie costs)

  total : IsTotalOrder order
  total = then_total (on_total (walk_time_by costs net start) nat_cmp_total) (tie_total costs)

  abbrev Before : List ℕ → List ℕ → Type 0
  Before v w = comes_before costs net start v w ≡ true

  as_order : (v w : List ℕ) → comes_before costs net start v w ≡ is_le (order v w)
  as_order v w =
      ap (λ b. nat_lt (walk_time_by costs net start v) (walk_time_by costs net start w) || (nat_eq (walk_time_by costs net start v) (walk_time_by costs net start w) && b)) (first_is costs v w)
      ∙ by_two (nat_lt (walk_time_by costs net start v) (walk_time_by costs net start w)) (nat_eq (walk_time_by costs net start v) (walk_time_by costs net start w)) (tie costs v w)

  before_itself : (w : List ℕ) → Before w w
  before_itself w = as_order w w ∙ ap is_le (tied_itself total w)

  before_then : (u v w : List ℕ) → Before u v → Before v w → Before u w
  before_then u v w h k = as_order u w ∙ gt-le (order u w) (upto total u v w (le-gt (order u v) (sym (as_order u v) ∙ h)) (le-gt (order v w) (sym (as_order v w) ∙ k)))

  before_turned : (v w : List ℕ) → comes_before costs net start v w ≡ false → Before w v
  before_turned v w h = as_order w v ∙ turned (order w v) (order v w) (total.antisymm w v) (sym (as_order v w) ∙ h)

  -- none of some walks, or one that comes before each
  abbrev pub IsBest : List (List ℕ) → Option (List ℕ) → Type 0
  IsBest walks None = (w : List ℕ) → Among w walks → ⊥
  IsBest walks (Some best) = Among best walks × ((w : List ℕ) → Among w walks → comes_before costs net start best w ≡ true)

  pub best_is : (walks : List (List ℕ)) → IsBest walks (best_of costs net start walks)
  unfolding best_of
  best_is [] = λ w h. h
  best_is (walk ∷ others) = by (best_of costs net start others) (best_is others)
    where
      one : (best : List ℕ) (b : Bool) → comes_before costs net start walk best ≡ b → IsBest others (Some best) → IsBest (walk ∷ others) (Some (cond b walk best))
      one best true h old = (inl refl, each)
        where
          each : (w : List ℕ) → Among w (walk ∷ others) → Before walk w
          each w (inl e) = subst (λ v. Before walk v) e (before_itself walk)
          each w (inr k) = before_then walk best w h (old.1 w k)
      one best false h old = (inr (old.0), each)
        where
          each : (w : List ℕ) → Among w (walk ∷ others) → Before best w
          each w (inl e) = subst (λ v. Before best v) e (before_turned walk best h)
          each w (inr k) = old.1 w k

      by : (o : Option (List ℕ)) → IsBest others o → IsBest (walk ∷ others) (better costs net start walk o)
      by None old = (inl refl, each)
        where
          each : (w : List ℕ) → Among w (walk ∷ others) → Before walk w
          each w (inl e) = subst (λ v. Before walk v) e (before_itself walk)
          each w (inr k) = absurd (old w k)
      by (Some best) old = one best (comes_before costs net start walk best) refl old

-- what it says of the times, and of the order of walks that take as much
early : (a b : ℕ) (q : Bool) → (nat_lt a b || (nat_eq a b && q)) ≡ true → a ≤ b
early a b true h = grind (arith, nat_tests)
early a b false h = grind (arith, nat_tests)

tied : (a b : ℕ) (q : Bool) → b ≡ a → (nat_lt a b || (nat_eq a b && q)) ≡ true → q ≡ true
tied a b true e h = refl
tied a b false e h = grind (arith, nat_tests)

pub before_time : (costs : Timing) (net : NetRows) (start : ℕ) (v w : List ℕ) → comes_before costs net start v w ≡ true → walk_time_by costs net start v ≤ walk_time_by costs net start w
before_time costs net start v w h = early (walk_time_by costs net start v) (walk_time_by costs net start w) (comes_first costs v w) h

pub before_first : (costs : Timing) (net : NetRows) (start : ℕ) (v w : List ℕ) → walk_time_by costs net start w ≡ walk_time_by costs net start v
    → comes_before costs net start v w ≡ true → comes_first costs v w ≡ true
before_first costs net start v w e h = tied (walk_time_by costs net start v) (walk_time_by costs net start w) (comes_first costs v w) e h

-- and by trips of the numbers of links
pub fewer_first : (m n : ℕ) (v w : List ℕ) → (nat_lt m n || (nat_eq m n && is_le (slice_cmp nat_cmp v w))) ≡ true → m ≤ n
fewer_first m n v w h = early m n (is_le (slice_cmp nat_cmp v w)) h

pub numbers_first : (m n : ℕ) (v w : List ℕ) → n ≡ m → (nat_lt m n || (nat_eq m n && is_le (slice_cmp nat_cmp v w))) ≡ true → is_le (slice_cmp nat_cmp v w) ≡ true
numbers_first m n v w e h = tied m n (is_le (slice_cmp nat_cmp v w)) e h
