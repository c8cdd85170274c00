-- By trips each walk can be cut to one that repeats no link, takes no longer, and has fewer links unless it is the same.
use Rattle.std.proofs.Common.{◌≡◌, ◌⊎◌, inl, inr, ℕ, zero, suc, ◌-◌, ◌<◌, ◌≤◌, Bool, true, false, List, [], ◌∷◌, ◌++◌, length, refl, ap, sym, subst, arith, eqb}
use Rattle.std.specs.Prelude.{All}
use Rattle.std.specs.List.{IsDistinct, list_any}
use Rattle.std.proofs.lemmas.Bool.{eqb-true, or_cases}
use Rattle.std.proofs.lemmas.List.{length-append}
use Rattle.std.proofs.lemmas.Map.Steps.{length-le_from_distinct_below}
use Rattle.net_core.specs.declared.rows.NetRows.{NetRows}
use Rattle.dta_model.specs.Walks.{IsWalk}
use Rattle.trip_costs.specs.TripCosts.{TravelCosts, time_by}
use Rattle.trip_costs.proofs.Later.{straight_is_earlier}
use Rattle.trip_costs.proofs.Rounds.{straight_walks}
use Rattle.reference.specs.Searched.{NeverFalls}
use Rattle.reference.proofs.Erased.{has_not}

-- ---- links that stand twice
-- where a link stands among others
record Among (l : ℕ) (xs : List ℕ) : Type 0 where
  before : List ℕ
  behind : List ℕ
  whole : xs ≡ before ++ l ∷ behind

among : (l : ℕ) (xs : List ℕ) → list_any (eqb l) xs ≡ true → Among l xs
among l [] h = cc
among l (x ∷ xs) h = by (among l xs) (or_cases (eqb l x) (list_any (eqb l) xs) h)
  where
    by : (list_any (eqb l) xs ≡ true → Among l xs) → (eqb l x ≡ true) ⊎ (list_any (eqb l) xs ≡ true) → Among l (x ∷ xs)
    by further (inl e) = record { before = []; behind = xs; whole = ap (λ y. y ∷ xs) (sym (eqb-true l x e)) }
    by further (inr k) =
        let a = further k in
        record { before = x ∷ a.before; behind = a.behind; whole = ap (λ ys. x ∷ ys) a.whole }

-- a list goes round from a link to the same one
record Round (xs : List ℕ) : Type 0 where
  link : ℕ
  first : List ℕ
  middle : List ℕ
  last : List ℕ
  whole : xs ≡ first ++ link ∷ (middle ++ link ∷ last)

once_or_round : (xs : List ℕ) → IsDistinct eqb xs ⊎ Round xs
unfolding IsDistinct
once_or_round [] = inl tt
once_or_round (x ∷ xs) = by (once_or_round xs) (list_any (eqb x) xs) refl
  where
    by : IsDistinct eqb xs ⊎ Round xs → (b : Bool) → list_any (eqb x) xs ≡ b → IsDistinct eqb (x ∷ xs) ⊎ Round (x ∷ xs)
    by (inr r) b e = inr (record { link = r.link; first = x ∷ r.first; middle = r.middle; last = r.last; whole = ap (λ ys. x ∷ ys) r.whole })
    by (inl once) true e =
        let a = among x xs e in
        inr (record { link = x; first = []; middle = a.before; last = a.behind; whole = ap (λ ys. x ∷ ys) a.whole })
    by (inl once) false e = inl (has_not x xs e, once)

-- ---- walks
module _ (costs : TravelCosts) (net : NetRows) (falls : NeverFalls costs.at) (origin destination start : ℕ) where
  -- a walk that is no worse and has few links
  pub record Straight (walk : List ℕ) : Type 0 where
    pub straight : List ℕ
    pub walks : IsWalk net origin destination straight
    pub no_later : time_by costs net start straight ≤ time_by costs net start walk
    pub few : length straight ≤ length net.links
    pub fewer : (straight ≡ walk) ⊎ (length straight < length walk)

  small : (walk : List ℕ) → IsWalk net origin destination walk → IsDistinct eqb walk → length walk ≤ length net.links
  small walk is once = length-le_from_distinct_below walk (length net.links) once (λ q h. below q (among q walk h))
    where
      below : (q : ℕ) → Among q walk → q < length net.links
      below q a = last a.before (subst (λ xs. All (λ k. k < length net.links) xs) a.whole is.links)
        where
          last : (xs : List ℕ) → All (λ k. k < length net.links) (xs ++ q ∷ a.behind) → q < length net.links
          last [] all = all 0 0 (omega arith)
          last (x ∷ xs) all = last xs (λ i d h. all (suc i) d (omega (arith, h)))

  shorter : (l : ℕ) (A B C : List ℕ) → length (A ++ l ∷ C) < length (A ++ l ∷ (B ++ l ∷ C))
  shorter l A B C =
      let a = length-append A (l ∷ C) in
      let b = length-append A (l ∷ (B ++ l ∷ C)) in
      let c = length-append B (l ∷ C) in
      omega (arith, a, b, c)

  later_less : (a b s : ℕ) → a ≤ b → a - s ≤ b - s
  later_less a b s h = omega (arith, h)

  straighten : (links : ℕ) (walk : List ℕ) → length walk ≤ links → IsWalk net origin destination walk → Straight walk
  straighten zero walk h is = absurd (let some = is.some in omega (arith, some, h))
  straighten (suc links) walk h is = by (straighten links) (once_or_round walk)
    where
      by : ((w : List ℕ) → length w ≤ links → IsWalk net origin destination w → Straight w) → IsDistinct eqb walk ⊎ Round walk → Straight walk
      by further (inl once) = record { straight = walk; walks = is; no_later = omega arith; few = small walk is once; fewer = inl refl }
      by further (inr r) = cut (further cut_short less walks)
        where
          cut_short : List ℕ
          cut_short = r.first ++ r.link ∷ r.last

          short : length cut_short < length walk
          short = subst (λ xs. length cut_short < length xs) (sym r.whole) (shorter r.link r.first r.middle r.last)

          less : length cut_short ≤ links
          less = let n = short in omega (arith, n, h)

          walks : IsWalk net origin destination cut_short
          walks =
              straight_walks net origin destination r.link r.first r.middle r.last
              (subst (λ xs. IsWalk net origin destination xs) r.whole is)

          soon : time_by costs net start cut_short ≤ time_by costs net start walk
          soon =
              subst (λ xs. time_by costs net start cut_short ≤ time_by costs net start xs) (sym r.whole)
              (later_less _ _ start (straight_is_earlier costs net falls r.first r.middle r.last start r.link))

          both : (v : List ℕ) → (v ≡ cut_short) ⊎ (length v < length cut_short) → length v < length walk
          both v (inl same) = subst (λ xs. length xs < length walk) (sym same) short
          both v (inr k) = let n = short in omega (arith, n, k)

          cut : Straight cut_short → Straight walk
          cut s = record {
            straight = s.straight;
            walks = s.walks;
            no_later = let a = s.no_later in let b = soon in omega (arith, a, b);
            few = s.few;
            fewer = inr (both s.straight s.fewer);
          }

  pub straight_of : (walk : List ℕ) → IsWalk net origin destination walk → Straight walk
  straight_of walk is = straighten (length walk) walk (omega arith) is
