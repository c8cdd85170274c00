-- One pass over a node's links makes the moves of the definition, which begins again at the first in-link for each move.
use Rattle.std.proofs.lemmas.Bool.{and_parts, not-true}
use Rattle.std.specs.Prelude.{All, ◌≢◌, ⊤}
use Rattle.std.proofs.Common.{◌≡◌, ℕ, zero, suc, ◌+◌, ◌<◌, ◌≤◌, true, false, List, [], ◌∷◌, ◌++◌, length, refl, ap, sym, ◌∙◌, subst, arith, append_assoc, append-nil, Option, Some, None}
use Rattle.std.proofs.lemmas.List.{length-map, length-append}
use Rattle.std.proofs.lemmas.List.Elements.{All-head, All-tail, All-push, All-nil, All-weaker, All-map}
use Rattle.dta_model.specs.declared.plan.Plan.{Plan}
use Rattle.dta_model.specs.Loading.{trace_after}
use Rattle.dta_model.specs.NodeMoves.{admission, either, first_of, grow, grown, head_move, in_order, next_move, node_moves, waits_for}
use Rattle.cell_stages.specs.OnePass.{OnePassIsEnough, drained, one_pass, pass_links}
use Rattle.dta_model.specs.Plans.{outs, vehicle_count}
use Rattle.dta_model.proofs.Steady.{IsSteady, steady_of}
use Rattle.dta_model.specs.Trace.{Move, has_moved, last_moves, queue_of}
use Rattle.dta_model.proofs.Queues.{vehicles, absent, queues-apart, absent-filter, absent-last}
use Rattle.dta_model.proofs.Standing.{present}
use Rattle.dta_model.proofs.NextMoves.{head_cases, waiting_cases, next_cases}
use Rattle.dta_model.proofs.Fuel.{Lawful, OneStep, one_more, kind_lawful, trace-lawful, none_left, distinct_below}
use Rattle.dta_model.proofs.Blocked.{stays-blocked, admits-none}

none_some : (m : Move) → None ≡ Some m → ⊥
none_some m e = cc

first_past : (f : ℕ → Option Move) (done rest : List ℕ) (l : ℕ) (m : Move) → All (λ k. f k ≡ None) done → f l ≡ Some m → first_of f (done ++ l ∷ rest) ≡ Some m
first_past f [] rest l m none e = rw e refl
first_past f (k ∷ done) rest l m none e = rw (All-head (λ j. f j ≡ None) k done none) (first_past f done rest l m (All-tail (λ j. f j ≡ None) k done none) e)

first_none : (f : ℕ → Option Move) (ls : List ℕ) → All (λ k. f k ≡ None) ls → first_of f ls ≡ None
first_none f [] none = refl
first_none f (k ∷ ls) none = rw (All-head (λ j. f j ≡ None) k ls none) (first_none f ls (All-tail (λ j. f j ≡ None) k ls none))

module _ (p : Plan) (sound : IsSteady p) (n t : ℕ) (T0 : List Move) (before : All (Lawful p t) T0) where
  -- from one list to the other by next moves
  data Leads : List Move → List Move → Type 0 where
    here : (M : List Move) → Leads M M
    next : (M M' : List Move) (m : Move) → next_move p n t T0 M ≡ Some m → Leads (M ++ m ∷ []) M' → Leads M M'

  Leads-trans : (A B C : List Move) → Leads A B → Leads B C → Leads A C
  Leads-trans A B C (here M) b = b
  Leads-trans A B C (next M M' m e a) b = next A C m e (Leads-trans (A ++ m ∷ []) B C a b)

  -- both come to the same end
  same_end : (fuel : ℕ) (M M' : List Move) → Leads M M' → next_move p n t T0 M' ≡ None → next_move p n t T0 (grown p n t T0 fuel M) ≡ None → grown p n t T0 fuel M ≡ M'
  unfolding grown
  same_end zero M M' (here K) e f = refl
  same_end zero M M' (next K K' m s a) e f = absurd (none_some m (sym f ∙ s))
  same_end (suc fuel) M M' (here K) e f = ap (λ o. grow (grown p n t T0 fuel) M o) e
  same_end (suc fuel) M M' (next K K' m s a) e f =
      let g : grow (grown p n t T0 fuel) M (next_move p n t T0 M) ≡ grown p n t T0 fuel (M ++ m ∷ []) = ap (λ o. grow (grown p n t T0 fuel) M o) s in
      g ∙ same_end fuel (M ++ m ∷ []) M' a e (ap (λ L. next_move p n t T0 L) (sym g) ∙ f)

  record InStep (M : List Move) : Type 0 where
    one : OneStep p t M
    law : All (Lawful p (suc t)) M

  InStep-next : (M : List Move) (m : Move) → InStep M → next_move p n t T0 M ≡ Some m → InStep (M ++ m ∷ [])
  InStep-next M m i e = record { one = one_more p sound n t T0 M m i.one e; law = All-push (Lawful p (suc t)) M m i.law (kind_lawful p n t T0 before M m i.law (next_cases p n t T0 M m e)) }

  InStep-few : (M : List Move) → InStep M → length M ≤ vehicle_count p
  InStep-few M i =
      let below = All-map (λ v. v < vehicle_count p) (λ m. m.vehicle) M (All-weaker (Lawful p (suc t)) (λ m. m.vehicle < vehicle_count p) (λ m a. a.below) M i.law) in
      let few = distinct_below (vehicle_count p) (vehicles M) i.one.each below in
      let long = length-map M (λ m. m.vehicle) in omega (arith, few, long)

  -- a pass over links that give moves: `give l` is the next move where the links before l give none, and those stay so
  module _ (give : ℕ → List Move → Option Move) (whole : List ℕ) (C : List Move → Type 0)
      (is_next : (M : List Move) (done rest : List ℕ) (l : ℕ) (m : Move) → whole ≡ done ++ l ∷ rest → C M → All (λ k. give k M ≡ None) done → give l M ≡ Some m → next_move p n t T0 M ≡ Some m)
      (stays : (M : List Move) (k l : ℕ) (m : Move) → k ≢ l → give k M ≡ None → give l M ≡ Some m → give k (M ++ m ∷ []) ≡ None)
      (keeps : (M : List Move) (l : ℕ) (m : Move) → C M → give l M ≡ Some m → C (M ++ m ∷ [])) where
    record Passed (done : List ℕ) (M M' : List Move) : Type 0 where
      leads : Leads M M'
      cond' : C M'
      inside : InStep M'
      none : All (λ k. give k M' ≡ None) done

    all_stay : (M : List Move) (l : ℕ) (m : Move) (done : List ℕ) → All (λ k. give k M ≡ None) done → give l M ≡ Some m → All (λ k. give k (M ++ m ∷ []) ≡ None) done
    all_stay M l m done none e = All-weaker (λ k. give k M ≡ None) (λ k. give k (M ++ m ∷ []) ≡ None) (λ k h. stays M k l m (λ same. none_some m (sym h ∙ ap (λ j. give j M) same ∙ e)) h e) done none

    record Drained (done : List ℕ) (l fuel : ℕ) (M M' : List Move) : Type 0 where
      passed : Passed done M M'
      full : (m : Move) → give l M' ≡ Some m → length M' ≡ length M + fuel

    drain : (done rest : List ℕ) (l : ℕ) → whole ≡ done ++ l ∷ rest → (fuel : ℕ) (M : List Move) → C M → InStep M → All (λ k. give k M ≡ None) done → Drained done l fuel M (drained (give l) fuel M)
    unfolding drained
    drain done rest l w zero M c i none = record { passed = record { leads = here M; cond' = c; inside = i; none = none }; full = λ m e. omega arith }
    drain done rest l w (suc fuel) M c i none =
        drain_step (give l M) refl (λ m e. drain done rest l w fuel (M ++ m ∷ []) (keeps M l m c e) (InStep-next M m i (is_next M done rest l m w c none e)) (all_stay M l m done none e))
      where
        longer : (M M' : List Move) (m : Move) → length M' ≡ length (M ++ m ∷ []) + fuel → length M' ≡ length M + suc fuel
        longer M M' m h = let k = length-append M (m ∷ []) in omega (arith, h, k)

        drain_step : (o : Option Move) → give l M ≡ o → ((m : Move) → give l M ≡ Some m → Drained done l fuel (M ++ m ∷ []) (drained (give l) fuel (M ++ m ∷ []))) → Drained done l (suc fuel) M (grow (drained (give l) fuel) M o)
        drain_step None e ih = record { passed = record { leads = here M; cond' = c; inside = i; none = none }; full = λ m f. absurd (none_some m (sym e ∙ f)) }
        drain_step (Some m) e ih =
            let d = ih m e in
            record {
              passed = record { leads = next M (drained (give l) fuel (M ++ m ∷ [])) m (is_next M done rest l m w c none e) d.passed.leads; cond' = d.passed.cond'; inside = d.passed.inside; none = d.passed.none };
              full = λ x f. longer M (drained (give l) fuel (M ++ m ∷ [])) m (d.full x f);
            }

    -- a link that was drained gives nothing
    drained-none : (done rest : List ℕ) (l : ℕ) → whole ≡ done ++ l ∷ rest → (M : List Move) → C M → InStep M → All (λ k. give k M ≡ None) done → give l (drained (give l) (vehicle_count p) M) ≡ None
    drained-none done rest l w M c i none = none_step (give l (drained (give l) (vehicle_count p) M)) refl
      where
        too_many : (M M' : List Move) (m : Move) → length M' ≡ length M + vehicle_count p → length (M' ++ m ∷ []) ≤ vehicle_count p → ⊥
        too_many M M' m h f = let k = length-append M' (m ∷ []) in omega (arith, h, f, k)

        none_step : (o : Option Move) → give l (drained (give l) (vehicle_count p) M) ≡ o → o ≡ None
        none_step None e = refl
        none_step (Some m) e =
            let d = drain done rest l w (vehicle_count p) M c i none in
            absurd (too_many M (drained (give l) (vehicle_count p) M) m (d.full m e) (InStep-few (drained (give l) (vehicle_count p) M ++ m ∷ []) (InStep-next (drained (give l) (vehicle_count p) M) m d.passed.inside (is_next (drained (give l) (vehicle_count p) M) done rest l m w d.passed.cond' d.passed.none e))))

    pass : (ls done : List ℕ) → whole ≡ done ++ ls → (M : List Move) → C M → InStep M → All (λ k. give k M ≡ None) done → Passed whole M (pass_links (vehicle_count p) give ls M)
    unfolding pass_links
    pass [] done w M c i none = record { leads = here M; cond' = c; inside = i; none = subst (λ xs. All (λ k. give k M ≡ None) xs) (sym (w ∙ append-nil done)) none }
    pass (l ∷ ls) done w M c i none =
        let M' = drained (give l) (vehicle_count p) M in
        let d = drain done ls l w (vehicle_count p) M c i none in
        let r = pass ls (done ++ l ∷ []) (w ∙ sym (append_assoc done (l ∷ []) ls)) M' d.passed.cond' d.passed.inside (All-push (λ k. give k M' ≡ None) done l d.passed.none (drained-none done ls l w M c i none)) in
        record { leads = Leads-trans M M' (pass_links (vehicle_count p) give ls M') d.passed.leads r.leads; cond' = r.cond'; inside = r.inside; none = r.none }

  -- heads of in-links
  head_next : (M : List Move) (done rest : List ℕ) (l : ℕ) (m : Move) → in_order p n t T0 ≡ done ++ l ∷ rest → ⊤ → All (λ k. head_move p n t T0 M k ≡ None) done → head_move p n t T0 M l ≡ Some m → next_move p n t T0 M ≡ Some m
  unfolding next_move
  head_next M done rest l m w c none e =
      ap (λ o. either o (first_of (admission p n t T0 M) (outs p n))) (ap (λ ls. first_of (head_move p n t T0 M) ls) w ∙ first_past (head_move p n t T0 M) done rest l m none e)

  head_stays : (M : List Move) (k l : ℕ) (m : Move) → k ≢ l → head_move p n t T0 M k ≡ None → head_move p n t T0 M l ≡ Some m → head_move p n t T0 (M ++ m ∷ []) k ≡ None
  head_stays M k l m other none e =
      let h = head_cases p n t T0 M l m e in
      stays-blocked p sound n t T0 M m k h.now (queues-apart l k m.vehicle (T0 ++ M) (λ s. other (sym s)) (present (queue_of l (T0 ++ M)) 0 m.vehicle h.first)) none

  -- admissions
  absent_new : (k v : ℕ) (T : List Move) → has_moved v T ≡ false → absent v (queue_of k T) ≡ true
  unfolding queue_of
  absent_new k v T h = absent-filter _ v (last_moves T) (absent-last v T h)

  Blocked : List Move → Type 0
  Blocked M = All (λ k. head_move p n t T0 M k ≡ None) (in_order p n t T0)

  new_mover : (M : List Move) (b v : ℕ) → waits_for p n t T0 M b v ≡ true → has_moved v (T0 ++ M) ≡ false
  unfolding waits_for
  new_mover M b v h = not-true _ (and_parts _ _ h).1

  admission_next : (M : List Move) (done rest : List ℕ) (b : ℕ) (m : Move) → outs p n ≡ done ++ b ∷ rest → Blocked M → All (λ k. admission p n t T0 M k ≡ None) done → admission p n t T0 M b ≡ Some m → next_move p n t T0 M ≡ Some m
  unfolding next_move Blocked
  admission_next M done rest b m w c none e =
      ap (λ o. either o (first_of (admission p n t T0 M) (outs p n))) (first_none (head_move p n t T0 M) (in_order p n t T0) c)
      ∙ ap (λ ls. first_of (admission p n t T0 M) ls) w ∙ first_past (admission p n t T0 M) done rest b m none e

  admission_keeps : (M : List Move) (b : ℕ) (m : Move) → Blocked M → admission p n t T0 M b ≡ Some m → Blocked (M ++ m ∷ [])
  unfolding Blocked
  admission_keeps M b m c e =
      let h = waiting_cases p n t T0 M b m e in
      All-weaker (λ k. head_move p n t T0 M k ≡ None) (λ k. head_move p n t T0 (M ++ m ∷ []) k ≡ None)
      (λ k none. stays-blocked p sound n t T0 M m k h.now (absent_new k m.vehicle (T0 ++ M) (new_mover M b m.vehicle h.waits)) none) (in_order p n t T0) c

  pub one-pass : node_moves p n t T0 ≡ one_pass p n t T0
  unfolding node_moves one_pass Blocked next_move
  one-pass =
      let first = pass (λ l M. head_move p n t T0 M l) (in_order p n t T0) (λ M. ⊤) head_next head_stays (λ M l m c e. tt) (in_order p n t T0) [] refl [] tt (record { one = record { each = refl; now = All-nil (λ x. x.step ≡ t) }; law = All-nil (Lawful p (suc t)) }) (All-nil (λ k. head_move p n t T0 [] k ≡ None)) in
      let M1 = pass_links (vehicle_count p) (λ l M. head_move p n t T0 M l) (in_order p n t T0) [] in
      let second = pass (λ b M. admission p n t T0 M b) (outs p n) Blocked admission_next (λ M k b m other none e. admits-none p sound n t T0 M m k none) admission_keeps (outs p n) [] refl M1 first.none first.inside (All-nil (λ k. admission p n t T0 M1 k ≡ None)) in
      let M2 = pass_links (vehicle_count p) (λ b M. admission p n t T0 M b) (outs p n) M1 in
      let end : next_move p n t T0 M2 ≡ None = ap (λ o. either o (first_of (admission p n t T0 M2) (outs p n))) (first_none (head_move p n t T0 M2) (in_order p n t T0) second.cond') ∙ first_none (admission p n t T0 M2) (outs p n) second.none in
      same_end (vehicle_count p) [] M2 (Leads-trans [] M1 M2 first.leads second.leads) end (none_left p sound n t T0 before)

pub one_pass_is_enough : OnePassIsEnough
one_pass_is_enough p sound n t = one-pass p (steady_of p sound) n t (trace_after p t) (trace-lawful p t)
