-- The waiting lines of a node after a step.
use Rattle.net_core.specs.Network as network
use Rattle.net_core.specs.Network.{numbers_below}
use Rattle.std.specs.List.{range_with_len}
use Rattle.std.specs.List.{list_any}
use Rattle.std.specs.Prelude.{filter, slice_get, All, nat_eq}
use Rattle.std.proofs.Common.{◌≡◌, ℕ, zero, suc, ◌+◌, ◌<◌, Bool, true, false, ◌&&◌, ◌||◌, not, List, ◌++◌, length, map, refl, ap, sym, ◌∙◌, arith, Some, append-nil}
use Rattle.std.proofs.lemmas.Bool.{eqb-true, and_parts, not-true}
use Rattle.std.proofs.lemmas.List.Elements.{All-nil, All-cons, All-weaker, filter_passes}
use Rattle.dta_model.specs.declared.plan.Plan.{Plan}
use Rattle.dta_model.specs.Loading.{after_step, step_moves, trace_after}
use Rattle.dta_model.specs.NodeMoves.{is_first, node_moves}
use Rattle.dta_model.specs.Plans.{all_nodes, first_link, link_at, outs, vehicles_of}
use Rattle.dta_model.specs.Riders.{rider_at, riders}
use Rattle.cell_stages.specs.Stages.{staying, waiting_after, waiting_before, waiting_for}
use Rattle.dta_model.specs.Trace.{Move, has_moved, moves_of}
use Rattle.cell_stages.specs.Transfers.{WaitingLinesStay}
use Rattle.dta_model.proofs.Pushes.{has_moved-append, has_moved_is, moves_of-append}
use Rattle.dta_model.proofs.Standing.{no-last}
use Rattle.dta_model.proofs.Steady.{steady_of}
use Rattle.cell_stages.proofs.Riders.{filter_two}
use Rattle.dta_model.proofs.Places.{node_of, first_at}
use Rattle.cell_stages.proofs.Gathering.{own-at, rider-like, map_like, kept_at}
use Rattle.dta_model.proofs.NoMoves.{no-moves}

pub below_all : (k from : ℕ) → All (λ x. x < from + k) (range_with_len from k)
below_all zero from = All-nil (λ x. x < from + zero)
below_all (suc k) from = All-cons (λ x. x < from + suc k) from (range_with_len (from + 1) k) (here from k) (All-weaker (λ x. x < from + 1 + k) (λ x. x < from + suc k) (λ x h. more x from k h) (range_with_len (from + 1) k) (below_all k (from + 1)))
  where
    here : (a b : ℕ) → a < a + suc b
    here a b = omega arith

    more : (x a b : ℕ) → x < a + 1 + b → x < a + suc b
    more x a b h = omega (arith, h)

pub out_links : (p : Plan) (n : ℕ) → All (λ b. (link_at p b).from.0 ≡ n) (outs p n)
unfolding network.outs
out_links p n =
    let test : ℕ → Bool = λ l. nat_eq (link_at p l).from.0 n in
    All-weaker (λ l. test l ≡ true) (λ l. (link_at p l).from.0 ≡ n) (λ l h. eqb-true (link_at p l).from.0 n h) (filter test (numbers_below (length p.net.links))) (filter_passes test (numbers_below (length p.net.links)))

test_same : (f mT mN mM mA : Bool) → mA ≡ (mT || mN) → (f ≡ true → mT ≡ false → mN ≡ mM) → (f && not mA) ≡ ((f && not mT) && not mM)
test_same false mT mN mM mA e h = refl
test_same true true mN mM mA e h = rw e refl
test_same true false mN mM mA e h = rw e (ap not (h refl refl))

module _ (p : Plan) (t n b : ℕ) (T : List Move) (there : n < length p.net.nodes) (out : (link_at p b).from.0 ≡ n) where
  first-stands : (v : ℕ) → is_first b (first_link p v) ≡ true → has_moved v T ≡ false → node_of p T v ≡ Some n
  first-stands v f h = first_at p n t T v b f (no-last v T h) ∙ ap (λ k. Some k) out

  first-moves : (v : ℕ) → is_first b (first_link p v) ≡ true → has_moved v T ≡ false → moves_of v (step_moves p t T (all_nodes p)) ≡ moves_of v (node_moves p n t T)
  first-moves v f h = own-at p t T n v (first-stands v f h) there

  still_waiting : waiting_for p b (T ++ step_moves p t T (all_nodes p)) ≡ staying (node_moves p n t T) (waiting_for p b T)
  unfolding waiting_for
  still_waiting =
      filter_two (λ v. is_first b (first_link p v) && not (has_moved v (T ++ step_moves p t T (all_nodes p)))) (λ v. is_first b (first_link p v) && not (has_moved v T)) (λ v. not (has_moved v (node_moves p n t T)))
      (λ v. test_same (is_first b (first_link p v)) (has_moved v T) (has_moved v (step_moves p t T (all_nodes p))) (has_moved v (node_moves p n t T)) (has_moved v (T ++ step_moves p t T (all_nodes p))) (has_moved-append v T (step_moves p t T (all_nodes p)))
      (λ f h. has_moved_is v (step_moves p t T (all_nodes p)) ∙ ap (λ L. list_any (λ _. true) L) (first-moves v f h) ∙ sym (has_moved_is v (node_moves p n t T))))
      (vehicles_of p)

  waits-like : (i v : ℕ) → slice_get (staying (node_moves p n t T) (waiting_for p b T)) i ≡ Some v → rider_at p (T ++ step_moves p t T (all_nodes p)) v ≡ rider_at p T v
  unfolding waiting_for
  waits-like i v e =
      let k = kept_at (λ w. not (has_moved w (node_moves p n t T))) (filter (λ w. is_first b (first_link p w) && not (has_moved w T)) (vehicles_of p)) i v e in
      let j = kept_at (λ w. is_first b (first_link p w) && not (has_moved w T)) (vehicles_of p) (k.1.0) v (k.1.1) in
      let parts = and_parts (is_first b (first_link p v)) (not (has_moved v T)) (j.0) in
      rider-like p (T ++ step_moves p t T (all_nodes p)) T v
      (moves_of-append v T (step_moves p t T (all_nodes p))
      ∙ ap (λ L. moves_of v T ++ L) (first-moves v parts.0 (not-true _ parts.1) ∙ no-moves v (node_moves p n t T) (not-true _ (k.0)))
      ∙ append-nil (moves_of v T))

  pub waiting-gathered : riders p (T ++ step_moves p t T (all_nodes p)) (waiting_for p b (T ++ step_moves p t T (all_nodes p))) ≡ riders p T (staying (node_moves p n t T) (waiting_for p b T))
  waiting-gathered =
      ap (λ Q. map (rider_at p (T ++ step_moves p t T (all_nodes p))) Q) still_waiting
      ∙ map_like (rider_at p (T ++ step_moves p t T (all_nodes p))) (rider_at p T) (staying (node_moves p n t T) (waiting_for p b T)) waits-like

waiting-line : (p : Plan) (t n b : ℕ) → n < length p.net.nodes → (link_at p b).from.0 ≡ n → waiting_before p (suc t) b ≡ waiting_after p n t b
unfolding waiting_before waiting_after trace_after after_step
waiting-line p t n b there out = waiting-gathered p t n b (trace_after p t) there out

pub waiting_lines_stay : WaitingLinesStay
waiting_lines_stay p sound t b there = waiting-line p t (link_at p b).from.0 b ((steady_of p sound).ends b there).0 refl
