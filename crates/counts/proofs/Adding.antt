-- The turns of vehicles, added one vehicle after another.
use Rattle.std.specs.List.Sorted.{IsPermutation}
use Rattle.std.specs.Prelude.{count_by}
use Rattle.std.proofs.Common.{◌≡◌, ℕ, suc, ◌+◌, ◌≤◌, List, [], ◌++◌, length, refl, ap, sym, ◌∙◌, subst, arith, cond, get_or, Option}
use Rattle.std.proofs.lemmas.List.Elements.{All-append, All-nil}
use Rattle.std.proofs.lemmas.List.Sorted.{All-permutation, sum_by-IsPermutation}
use Rattle.std.proofs.lemmas.List.Sums.{sum_by-append}
use Rattle.net_core.specs.declared.rows.LinkNo.{LinkNo}
use Rattle.dta_model.specs.LinkTimes.{buckets_to}
use Rattle.dta_model.specs.Loading.{trace_after}
use Rattle.dta_model.specs.Trace.{Move, moves_of}
use Rattle.dta_model.specs.declared.plan.Plan.{Plan}
use Rattle.link_times.specs.Journeys.{HasGone}
use Rattle.link_times.proofs.Gone.{absent}
use Rattle.counts.specs.Inside.Turns.{AreAdded, AreTurnCounts, AreTurns, AreWithin, IsWithin, is_turn, turns_along}
use Rattle.counts.specs.Turns.{all_turns, taking, times_taken, turn_count, turn_counts, turn_counts_in}
use Rattle.counts.specs.declared.turn_counts.TurnCount.{TurnCount}
use Rattle.counts.specs.declared.turns.TimedTurn.{TimedTurn}
use Rattle.counts.proofs.Along.{taken-along, within-along}
use Rattle.counts.proofs.Counting.{counts-same}
use Rattle.counts.proofs.OverVehicles.{over_vehicles}
use Rattle.counts.proofs.SumFacts.{sum_next}
use Rattle.counts.proofs.TurnOrder.{turn_among, turns-rise}

-- the turns along a route are those of the vehicle's moves
pub turns_added : (p : Plan) (bucket v : ℕ) (route : List LinkNo) (entries : List ℕ) (arrival : Option ℕ) (old new : List TimedTurn) → 1 ≤ bucket → HasGone p v route entries arrival → new ≡ old ++ turns_along bucket route entries → AreAdded p bucket (moves_of v (trace_after p p.horizon)) old new
turns_added p bucket v route entries arrival old new least gone is = record {
  each = λ t. ap (count_by (is_turn t)) is
      ∙ sum_by-append (λ x. cond (is_turn t x) 1 0) old (turns_along bucket route entries)
      ∙ ap (λ n. count_by (is_turn t) old + n) (sym (ap (times_taken bucket t) gone.moves ∙ taken-along bucket t v route entries arrival));
  within = λ all. subst (λ L. AreWithin p bucket L) (sym is) (All-append (IsWithin (length p.net.links) (buckets_to bucket p.horizon)) old (turns_along bucket route entries) all (within-along (length p.net.links) p.horizon bucket route entries least gone.links gone.early));
}

times-none : (bucket : ℕ) (t : TimedTurn) → times_taken bucket t [] ≡ 0
unfolding times_taken taking
times-none bucket t = refl

-- who doesn't move takes no turn
pub none_added : (p : Plan) (bucket : ℕ) (M : List Move) (old : List TimedTurn) → M ≡ [] → AreAdded p bucket M old old
none_added p bucket M old e = record {
  each = λ t. plain (count_by (is_turn t) old) _ (ap (times_taken bucket t) e ∙ times-none bucket t);
  within = λ all. all;
}
  where
    plain : (n m : ℕ) → m ≡ 0 → n ≡ n + m
    plain n m e = omega (arith, e)

pub turns_first : (p : Plan) (bucket : ℕ) → AreTurns p bucket 0 []
turns_first p bucket = record {
  each = λ t. refl;
  within = All-nil (IsWithin (length p.net.links) (buckets_to bucket p.horizon));
}

pub turns_next : (p : Plan) (bucket v n : ℕ) (old new : List TimedTurn) → n ≡ suc v → AreTurns p bucket v old → AreAdded p bucket (moves_of v (trace_after p p.horizon)) old new → AreTurns p bucket n new
turns_next p bucket v n old new e had more = record {
  each = λ t.
      let a = had.each t in
      let m = more.each t in
      let all = sum_next (λ w. times_taken bucket t (moves_of w (trace_after p p.horizon))) v n e in
      omega (arith, a, m, all);
  within = more.within had.within;
}

-- the counts of all turns, once they are sorted
pub turns_counted : (p : Plan) (bucket n : ℕ) (turns sorted : List TimedTurn) (counts : List TurnCount) → length p.routes ≤ n → AreTurns p bucket n turns → IsPermutation turns sorted → AreTurnCounts sorted sorted counts → counts ≡ turn_counts p bucket
unfolding turn_counts turn_counts_in
turns_counted p bucket n turns sorted counts few are same told =
    told (all_turns (length p.net.links) (buckets_to bucket p.horizon)) (turns-rise (length p.net.links) (buckets_to bucket p.horizon))
    (λ i d h. turn_among (length p.net.links) (buckets_to bucket p.horizon) (get_or sorted i d) (All-permutation (IsWithin (length p.net.links) (buckets_to bucket p.horizon)) turns sorted same are.within i d h))
    ∙ counts-same turn_count (λ t. count_by (is_turn t) sorted) (λ t. times_taken bucket t (trace_after p p.horizon)) number (all_turns (length p.net.links) (buckets_to bucket p.horizon))
  where
    number : (t : TimedTurn) → count_by (is_turn t) sorted ≡ times_taken bucket t (trace_after p p.horizon)
    number t = sum_by-IsPermutation (λ x. cond (is_turn t x) 1 0) turns sorted same ∙ are.each t ∙ over_vehicles bucket t n (trace_after p p.horizon) (λ v h. absent p v (up (length p.routes) n v few h))
      where
        up : (a b c : ℕ) → a ≤ b → b ≤ c → a ≤ c
        up a b c h l = omega (arith, h, l)
