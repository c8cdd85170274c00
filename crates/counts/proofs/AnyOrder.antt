-- Traces in which each vehicle makes the same moves have the same counts.
use Rattle.std.specs.List.{list_any}
use Rattle.std.proofs.Common.{◌≡◌, ℕ, ◌≤◌, true, false, ◌&&◌, List, length, ap, sym, ◌∙◌}
use Rattle.net_core.specs.Network.{numbers_below}
use Rattle.dta_model.specs.LinkTimes.{buckets_to}
use Rattle.dta_model.specs.Loading.{trace_after}
use Rattle.dta_model.specs.Orders.{trace_in}
use Rattle.dta_model.specs.Plans.{vehicles_of}
use Rattle.dta_model.specs.Trace.{Move, has_moved, leads_to, moves_of}
use Rattle.dta_model.specs.declared.plan.Plan.{Plan}
use Rattle.dta_model.proofs.AnyOrder.{any_order}
use Rattle.dta_model.proofs.Congruence.{count_same}
use Rattle.dta_model.proofs.Pushes.{has_moved_is}
use Rattle.dta_model.proofs.Totals.{sum_alike}
use Rattle.link_times.proofs.Gone.{absent}
use Rattle.counts.specs.Orders.{SameThroughCounts, SameTurnCounts}
use Rattle.counts.specs.Through.{above_zones, all_pairs, goes_between, number_through, enters, through_count, through_counts, through_counts_in}
use Rattle.counts.specs.Turns.{all_turns, times_taken, turn_count, turn_counts, turn_counts_in}
use Rattle.counts.specs.declared.turns.TimedTurn.{TimedTurn}
use Rattle.counts.proofs.Counting.{counts-same}
use Rattle.counts.proofs.OverVehicles.{over_vehicles}

module _ (p : Plan) (T U : List Move) (moves : (v : ℕ) → moves_of v T ≡ moves_of v U) where
  enters-same : (l v : ℕ) → enters l T v ≡ enters l U v
  unfolding enters
  enters-same l v = ap (list_any (leads_to l)) (moves v)

  through-same : (l : ℕ) → through_counts_in p l T ≡ through_counts_in p l U
  unfolding through_counts_in number_through
  through-same l =
      counts-same through_count (λ q. number_through p l T q (vehicles_of p)) (λ q. number_through p l U q (vehicles_of p))
      (λ q. count_same (λ v. goes_between p q v && enters l T v) (λ v. goes_between p q v && enters l U v) (λ v. ap (λ b. goes_between p q v && b) (enters-same l v)) (vehicles_of p))
      (all_pairs (above_zones p.trips))

  module _ (n : ℕ) (none : (v : ℕ) → n ≤ v → has_moved v U ≡ false) where
    none_too : (v : ℕ) → n ≤ v → has_moved v T ≡ false
    none_too v h = has_moved_is v T ∙ ap (λ L. list_any (λ _. true) L) (moves v) ∙ sym (has_moved_is v U) ∙ none v h

    taken-same : (bucket : ℕ) (t : TimedTurn) → times_taken bucket t T ≡ times_taken bucket t U
    taken-same bucket t =
        sym (over_vehicles bucket t n T none_too)
        ∙ sum_alike (λ v. times_taken bucket t (moves_of v T)) (λ v. times_taken bucket t (moves_of v U)) (λ v. ap (λ M. times_taken bucket t M) (moves v)) (numbers_below n)
        ∙ over_vehicles bucket t n U none

    turns-same : (bucket : ℕ) → turn_counts_in p bucket T ≡ turn_counts_in p bucket U
    unfolding turn_counts_in
    turns-same bucket =
        counts-same turn_count (λ t. times_taken bucket t T) (λ t. times_taken bucket t U) (taken-same bucket)
        (all_turns (length p.net.links) (buckets_to bucket p.horizon))

pub same_turn_counts : SameTurnCounts
unfolding turn_counts
same_turn_counts p order any bucket =
    turns-same p (trace_in p order p.horizon) (trace_after p p.horizon) (any_order p order any p.horizon).moves (length p.routes) (absent p) bucket

pub same_through_counts : SameThroughCounts
unfolding through_counts
same_through_counts p order any l =
    through-same p (trace_in p order p.horizon) (trace_after p p.horizon) (any_order p order any p.horizon).moves l
