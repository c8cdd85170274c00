-- The zones of vehicles that enter a link, added one vehicle after another.
use Rattle.std.specs.List.{list_any}
use Rattle.std.specs.List.Sorted.{IsPermutation}
use Rattle.std.specs.Prelude.{count_by, max, nat_eq, slice_get}
use Rattle.std.proofs.Common.{◌≡◌, ℕ, zero, suc, ◌+◌, true, false, cond, ◌&&◌, ◌||◌, List, [], ◌∷◌, ◌++◌, length, take, refl, ap, sym, ◌∙◌, subst, arith, get_or, Option, Some, None}
use Rattle.std.proofs.Math.Bool.{and-false, and-true}
use Rattle.std.proofs.lemmas.List.Elements.{All-nil, All-push}
use Rattle.std.proofs.lemmas.List.Sorted.{All-permutation, sum_by-IsPermutation}
use Rattle.std.proofs.lemmas.List.Sums.{sum_by_push}
use Rattle.net_core.specs.Network.{numbers_below}
use Rattle.net_core.specs.declared.rows.LinkNo.{LinkNo}
use Rattle.dta_model.specs.Loading.{trace_after}
use Rattle.dta_model.specs.Trace.{Move, leads_to, moves_of}
use Rattle.dta_model.specs.declared.plan.Plan.{Plan}
use Rattle.dta_model.specs.declared.trip.Trip.{Trip}
use Rattle.link_times.specs.Journeys.{HasGone, moves_along}
use Rattle.counts.specs.Inside.Pairs.{ArePairCounts, ArePairs, IsBelow}
use Rattle.counts.specs.Through.{above_zones, all_pairs, goes_between, is_pair, is_that, number_through, pair, enters, through_count, through_counts, through_counts_in, zones_in}
use Rattle.counts.specs.declared.through.ZonePair.{ZonePair}
use Rattle.counts.specs.declared.through_counts.ThroughCount.{ThroughCount}
use Rattle.counts.proofs.Counting.{counts-same}
use Rattle.counts.proofs.PairOrder.{pair_among, pairs-rise}
use Rattle.counts.proofs.SumFacts.{sum_next}

-- a vehicle enters a link that is among those that it entered
any_along : (l v : ℕ) (route : List LinkNo) (entries : List ℕ) (arrival : Option ℕ) → list_any (leads_to l) (moves_along v route entries arrival) ≡ list_any (λ x. nat_eq x.0 l) (take (length entries) route)
unfolding moves_along
any_along l v route [] None = refl
any_along l v route [] (Some s) = refl
any_along l v [] (e ∷ entries) arrival = refl
any_along l v (b ∷ route) (e ∷ entries) arrival = ap (λ c. nat_eq b.0 l || c) (any_along l v route entries arrival)

pub enters_along : (p : Plan) (l v : ℕ) (route : List LinkNo) (entries : List ℕ) (arrival : Option ℕ) → HasGone p v route entries arrival → list_any (λ x. nat_eq x.0 l) (take (length entries) route) ≡ enters l (trace_after p p.horizon) v
unfolding enters
enters_along p l v route entries arrival gone = sym (ap (list_any (leads_to l)) gone.moves ∙ any_along l v route entries arrival)

pub enters_none : (l v : ℕ) (T : List Move) → moves_of v T ≡ [] → false ≡ enters l T v
unfolding enters
enters_none l v T e = sym (ap (list_any (leads_to l)) e)

-- one vehicle more
number-more : (p : Plan) (l : ℕ) (T : List Move) (q : ZonePair) (n m : ℕ) → m ≡ suc n → number_through p l T q (numbers_below m) ≡ number_through p l T q (numbers_below n) + cond (goes_between p q n && enters l T n) 1 0
unfolding number_through
number-more p l T q n m e = sum_next (λ v. cond (goes_between p q v && enters l T v) 1 0) n m e

-- the zones of trips are below the number above them
below_at : (trips : List Trip) (v : ℕ) (x : ZonePair) → zones_in (slice_get trips v) ≡ Some x → IsBelow (above_zones trips) x
unfolding above_zones
below_at [] v x e = cc
below_at (trip ∷ trips) zero x e =
    let same : pair trip.origin trip.destination ≡ x = cc in
    subst (IsBelow (max (suc (max trip.origin trip.destination)) (above_zones trips))) same (record { origin = omega arith; destination = omega arith })
below_at (trip ∷ trips) (suc v) x e =
    let rest = below_at trips v x e in
    let o = rest.origin in
    let d = rest.destination in
    record { origin = omega (arith, o); destination = omega (arith, d) }

pub pairs_first : (p : Plan) (l : ℕ) → ArePairs p l 0 []
unfolding number_through
pairs_first p l = record { each = λ q. refl; below = All-nil (IsBelow (above_zones p.trips)) }

-- a vehicle that enters the link
pub pairs_next : (p : Plan) (l v n : ℕ) (pairs : List ZonePair) (x : ZonePair) → n ≡ suc v → enters l (trace_after p p.horizon) v ≡ true → zones_in (slice_get p.trips v) ≡ Some x → ArePairs p l v pairs → ArePairs p l n (pairs ++ x ∷ [])
unfolding goes_between
pairs_next p l v n pairs x e there zones had = record {
  each = λ q.
      let more = number-more p l (trace_after p p.horizon) q v n e in
      let push = sum_by_push (λ y. cond (is_pair q y) 1 0) pairs x in
      let h = had.each q in
      push ∙ both _ _ _ _ h (ap (λ b. cond b 1 0) (sym (ap (λ b. goes_between p q v && b) there ∙ and-true (goes_between p q v) ∙ ap (is_that q) zones))) ∙ sym more;
  below = All-push (IsBelow (above_zones p.trips)) pairs x had.below (below_at p.trips v x zones);
}
  where
    both : (a b c d : ℕ) → a ≡ b → c ≡ d → a + c ≡ b + d
    both a b c d e f = omega (arith, e, f)

-- one that doesn't
pub pairs_same : (p : Plan) (l v n : ℕ) (pairs : List ZonePair) → n ≡ suc v → enters l (trace_after p p.horizon) v ≡ false → ArePairs p l v pairs → ArePairs p l n pairs
pairs_same p l v n pairs e away had = record {
  each = λ q.
      let more = number-more p l (trace_after p p.horizon) q v n e in
      had.each q ∙ plain _ _ (ap (λ b. cond b 1 0) (ap (λ b. goes_between p q v && b) away ∙ and-false (goes_between p q v))) ∙ sym more;
  below = had.below;
}
  where
    plain : (a b : ℕ) → b ≡ 0 → a ≡ a + b
    plain a b e = omega (arith, e)

-- the counts of all pairs, once they are sorted
pub pairs_counted : (p : Plan) (l : ℕ) (pairs sorted : List ZonePair) (counts : List ThroughCount) → ArePairs p l (length p.trips) pairs → IsPermutation pairs sorted → ArePairCounts sorted sorted counts → counts ≡ through_counts p l
unfolding through_counts through_counts_in
pairs_counted p l pairs sorted counts are same told =
    told (all_pairs (above_zones p.trips)) (pairs-rise (above_zones p.trips)) (λ i d h. pair_among (above_zones p.trips) (get_or sorted i d) (All-permutation (IsBelow (above_zones p.trips)) pairs sorted same are.below i d h))
    ∙ counts-same through_count (λ q. count_by (is_pair q) sorted) (λ q. number_through p l (trace_after p p.horizon) q (numbers_below (length p.trips))) (λ q. sum_by-IsPermutation (λ x. cond (is_pair q x) 1 0) pairs sorted same ∙ are.each q) (all_pairs (above_zones p.trips))
