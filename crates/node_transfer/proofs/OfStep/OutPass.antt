-- The admissions of a node are the moves that its out-links let in one after another.
use Rattle.node_transfer.proofs.OfStep.ByKey.{both_true}
use Rattle.std.specs.List.{list_any, range_with_len}
use Rattle.std.specs.Prelude.{filter, slice_get, ◌≢◌, nat_le, nat_lt, All}
use Rattle.std.proofs.Common.{◌≡◌, ℕ, zero, suc, ◌+◌, ◌-◌, ◌<◌, ◌≤◌, Bool, true, false, ◌&&◌, not, List, [], ◌∷◌, ◌++◌, length, map, refl, ap, sym, ◌∙◌, subst, arith, append-nil, Option, Some, None, drop}
use Rattle.std.proofs.lemmas.Bool.{eqb-true, eqb-false, eq-eqb, ne_eqb}
use Rattle.std.proofs.lemmas.Bool.Decides.{nat_tests}
use Rattle.std.proofs.lemmas.List.Elements.{All-head, All-tail}
use Rattle.std.proofs.Math.Dec.{eqb}
use Rattle.dta_model.proofs.Totals.{first_place}
use Rattle.dta_model.specs.Loading.{is_entry}
use Rattle.dta_model.specs.NodeMoves.{grow, admission, admit, may_enter, where_true, is_first, entered}
use Rattle.cell_stages.specs.OnePass.{drained, pass_links}
use Rattle.dta_model.specs.Plans.{departure_of, first_link, link_rates, route_of, vehicle_count, vehicles_of}
use Rattle.dta_model.specs.Riders.{rider_at, riders, moved}
use Rattle.dta_model.specs.Sound.{IsSound}
use Rattle.cell_stages.specs.Stages.{arrived_before, arrive_by, batch_by, staying, waiting_for}
use Rattle.dta_model.specs.Trace.{Move, Onto, has_moved, leads_to, moves_made, next_target, queue_of, target_at}
use Rattle.cell_stages.specs.Transfers.{OnlyEnters}
use Rattle.dta_model.specs.declared.plan.Plan.{Plan}
use Rattle.dta_model.proofs.Fuel.{distinct_below, has_moved-if}
use Rattle.cell_stages.proofs.Gathering.{kept_at}
use Rattle.dta_model.proofs.NoMoves.{no-moves}
use Rattle.dta_model.proofs.Pushes.{moves_made_is}
use Rattle.dta_model.proofs.Queues.{absent, distinct}
use Rattle.dta_model.proofs.Standing.{in-queue}
use Rattle.capacity_credits.specs.Meter.{MeterState, closed}
use Rattle.node_transfer.specs.Inside.Outs.{Admitted, admitted, closed_out, closed_with}
use Rattle.cell_stages.specs.Contents.{sent}
use Rattle.cell_stages.specs.declared.out_link.OutLink.{OutLink}
use Rattle.node_transfer.proofs.OfStep.ByKey.{head_parts}
use Rattle.node_transfer.proofs.OfStep.InPass.{absent_all, all_from}
use Rattle.node_transfer.proofs.OfStep.LinkPass.{first_map, map_drop, not_true}
use Rattle.node_transfer.proofs.OfStep.Mid.{T, left_mid, meter_with, takes, due_now, due_later, waiting_mid, out_mid, arrived_mid, in_done, out_done}
use Rattle.node_transfer.proofs.OfStep.Movers.{distinct_filter, staying-same, unmoved_one, waits-unmoved, waiting-distinct, clash, batch-push, arrive-push, admission-is, due-leaves, later-stay}
use Rattle.node_transfer.proofs.OfStep.OneMove.{entered-push, take_one}
use Rattle.node_transfer.proofs.OfStep.Outs.{admitted-none, admitted-stop, admitted-go}
use Rattle.node_transfer.proofs.OfStep.HeadActions.{out-test}

first_apart : (o : Option ℕ) (b c : ℕ) → b ≢ c → is_first b o ≡ true → is_first c o ≡ true → ⊥
first_apart None b c other h k = let e : false ≡ true = h in cc
first_apart (Some l) b c other h k = other (sym (eqb-true l b h) ∙ eqb-true l c k)

nothing_left : (a : ℕ) → nat_lt 0 a ≡ false → a ≡ 0
nothing_left a h = grind (arith, nat_tests)

some_left : (a : ℕ) → nat_lt 0 a ≡ true → 0 < a
some_left a h = grind (arith, nat_tests)

none_there : {X : Type 0} (xs : List X) → slice_get xs 0 ≡ None → length xs ≡ 0
none_there [] h = refl
none_there (x ∷ xs) h = cc

module _ (p : Plan) (sound : IsSound p) (n t : ℕ) where
  abbrev pub inflow_mid : List Move → ℕ → MeterState
  inflow_mid M b = meter_with p t (link_rates p b) (takes p n t b - entered p n t (T p n t) M b)

  abbrev pub admit_of : List Move → ℕ → Admitted
  admit_of M b = admitted t (riders p (T p n t) (due_now p n t M b)) (batch_by p b (T p n t) M) (inflow_mid M b)

  abbrev pub admitted_of : List Move → ℕ → Admitted
  admitted_of M b = record { due = riders p (T p n t) (due_now p n t M b); batch = batch_by p b (T p n t) M; meter = inflow_mid M b }

  -- what an admission leaves as it was: the in-links, the arrived, the later riders, and the other out-links
  pub record Leaves (M M' : List Move) (b : ℕ) : Type 0 where
    pub ins : (l : ℕ) → in_done p n t M' l ≡ in_done p n t M l
    pub arrived : arrived_mid p n t M' ≡ arrived_mid p n t M
    pub later : due_later p n t M' b ≡ due_later p n t M b
    pub others : (c : ℕ) → b ≢ c → out_mid p n t M' c ≡ out_mid p n t M c

  pub data AdmitStep (M : List Move) (b : ℕ) : Type 0 where
    none-let-in : admission p n t (T p n t) M b ≡ None → admit_of M b ≡ admitted_of M b → AdmitStep M b
    one-let-in : (m : Move) → admission p n t (T p n t) M b ≡ Some m → due_now p n t (M ++ m ∷ []) b ≡ drop 1 (due_now p n t M b)
        → Leaves M (M ++ m ∷ []) b → admit_of M b ≡ admit_of (M ++ m ∷ []) b → AdmitStep M b

  module _ (M : List Move) (b v : ℕ) (first : slice_get (due_now p n t M b) 0 ≡ Some v) where
    abbrev m0 : Move
    m0 = record { step = t; vehicle = v; target = Onto b }

    among : (has_moved v M ≡ false) × ((j : ℕ) × (slice_get (waiting_for p b (T p n t)) j ≡ Some v))
    among =
        let k = kept_at (λ u. nat_le (departure_of p u) t) (staying M (waiting_for p b (T p n t))) 0 v first in
        let j = kept_at (λ u. not (has_moved u M)) (waiting_for p b (T p n t)) (k.1.0) v (k.1.1) in
        (not_true (has_moved v M) j.0, j.1)

    still : (is_first b (first_link p v) ≡ true) × (has_moved v (T p n t) ≡ false)
    still = waits-unmoved p n t b among.1.0 v among.1.1

    only : OnlyEnters (T p n t) v
    only = ap (λ L. filter is_entry L) (no-moves v (T p n t) still.1) ∙ sym (no-moves v (T p n t) still.1)

    goes : Onto b ≡ next_target p (T p n t) v
    unfolding next_target first_link
    goes =
        let none : moves_made v (T p n t) ≡ 0 = moves_made_is v (T p n t) ∙ ap (λ L. length L) (no-moves v (T p n t) still.1) in
        sym (ap (λ k. target_at (slice_get (route_of p v) k)) none ∙ ap (λ o. target_at o) (first_place (slice_get (route_of p v) 0) b still.0))

    waits-other : (c : ℕ) → b ≢ c → waiting_mid p n t (M ++ m0 ∷ []) c ≡ waiting_mid p n t M c
    waits-other c other =
        ap (λ S. record { later = riders p (T p n t) (filter (λ u. nat_le (suc t) (departure_of p u)) S); due = riders p (T p n t) (filter (λ u. nat_le (departure_of p u) t) S) })
        (staying-same M (m0 ∷ []) (waiting_for p c (T p n t)) (λ i u e. unmoved_one m0 u (λ s. first_apart (first_link p v) b c other still.0 (subst (λ w. is_first c (first_link p w) ≡ true) s (waits-unmoved p n t c i u e).0))))

    leaves : Leaves M (M ++ m0 ∷ []) b
    leaves = record {
      ins = λ l. ap (λ S. record (in_done p n t M l) { line = riders p (T p n t) S; left = left_mid p n t (riders p (T p n t) S) l }) (staying-same M (m0 ∷ []) (queue_of l (T p n t)) (λ i u e. let x = in-queue l (T p n t) i u e in unmoved_one m0 u (λ s. clash (has_moved v (T p n t)) (subst (λ w. has_moved w (T p n t) ≡ true) s (has_moved-if u (T p n t) (x.0) (x.1))) still.1)));
      arrived = ap (λ A. arrived_before p n t ++ A) (arrive-push p n t M m0 among.0 only goes refl ∙ append-nil (arrive_by p (T p n t) M));
      later = later-stay p n t M m0 b first;
      others = λ c other. same c other;
    }
      where
        same : (c : ℕ) → b ≢ c → out_mid p n t (M ++ m0 ∷ []) c ≡ out_mid p n t M c
        same c other =
            let none : leads_to c m0 ≡ false = ne_eqb b c other in
            let e : entered p n t (T p n t) (M ++ m0 ∷ []) c ≡ entered p n t (T p n t) M c = entered-push p n t M m0 c ∙ rw none (omega arith) in
            let f : batch_by p c (T p n t) (M ++ m0 ∷ []) ≡ batch_by p c (T p n t) M = batch-push p n t M m0 among.0 only goes refl c ∙ rw none (append-nil (batch_by p c (T p n t) M)) in
            rw (e, f, waits-other c other) refl

    goes-in : 0 < takes p n t b - entered p n t (T p n t) M b → admit_of M b ≡ admit_of (M ++ m0 ∷ []) b
    goes-in left =
        let here : leads_to b m0 ≡ true = eq-eqb b b refl in
        let d : riders p (T p n t) (due_now p n t (M ++ m0 ∷ []) b) ≡ drop 1 (riders p (T p n t) (due_now p n t M b)) = ap (λ Q. riders p (T p n t) Q) (due-leaves p n t M m0 b first) ∙ map_drop (rider_at p (T p n t)) (due_now p n t M b) in
        let f : batch_by p b (T p n t) (M ++ m0 ∷ []) ≡ batch_by p b (T p n t) M ++ moved (rider_at p (T p n t) v) t ∷ [] = batch-push p n t M m0 among.0 only goes refl b ∙ rw here refl in
        let c : takes p n t b - entered p n t (T p n t) (M ++ m0 ∷ []) b ≡ takes p n t b - entered p n t (T p n t) M b - 1 = take_one _ _ _ (entered-push p n t M m0 b ∙ rw here refl) in
        admitted-go t (riders p (T p n t) (due_now p n t M b)) (batch_by p b (T p n t) M) (inflow_mid M b) (rider_at p (T p n t) v) (first_map (rider_at p (T p n t)) (due_now p n t M b) (Some v) first) left
        ∙ sym (rw (d, f, c) refl)

    let-in : (c : Bool) → may_enter p n t (T p n t) M b ≡ c → AdmitStep M b
    unfolding admit
    let-in true e = one-let-in m0 (admission-is p n t M b ∙ ap (λ o. admit p n t (T p n t) M b o) first ∙ ap (λ d. where_true d m0) e) (due-leaves p n t M m0 b first) leaves (goes-in (some_left _ (out-test p n t M b ∙ e)))
    let-in false e =
        none-let-in (admission-is p n t M b ∙ ap (λ o. admit p n t (T p n t) M b o) first ∙ ap (λ d. where_true d m0) e)
        (admitted-stop t (riders p (T p n t) (due_now p n t M b)) (batch_by p b (T p n t) M) (inflow_mid M b) (nothing_left _ (out-test p n t M b ∙ e)))

  nobody : (M : List Move) (b : ℕ) → admit p n t (T p n t) M b None ≡ None
  unfolding admit
  nobody M b = refl

  admit-step : (M : List Move) (b : ℕ) → AdmitStep M b
  admit-step M b = by_first (slice_get (due_now p n t M b) 0) refl
    where
      by_first : (o : Option ℕ) → slice_get (due_now p n t M b) 0 ≡ o → AdmitStep M b
      by_first None e =
          none-let-in (admission-is p n t M b ∙ ap (λ o. admit p n t (T p n t) M b o) e ∙ nobody M b)
          (admitted-none t (riders p (T p n t) (due_now p n t M b)) (batch_by p b (T p n t) M) (inflow_mid M b) (none_there (riders p (T p n t) (due_now p n t M b)) (first_map (rider_at p (T p n t)) (due_now p n t M b) None e)))
      by_first (Some v) e = let-in M b v e (may_enter p n t (T p n t) M b) refl

  same-all : (M : List Move) (b : ℕ) → Leaves M M b
  same-all M b = record { ins = λ l. refl; arrived = refl; later = refl; others = λ c other. refl }

  leaves-more : (M M1 M2 : List Move) (b : ℕ) → Leaves M M1 b → Leaves M1 M2 b → Leaves M M2 b
  leaves-more M M1 M2 b x y = record { ins = λ l. y.ins l ∙ x.ins l; arrived = y.arrived ∙ x.arrived; later = y.later ∙ x.later; others = λ c other. y.others c other ∙ x.others c other }

  pub record AdmitsTo (M : List Move) (b : ℕ) (M' : List Move) : Type 0 where
    pub rest : Leaves M M' b
    pub result : admit_of M b ≡ admitted_of M' b

  pub admits : (b fuel : ℕ) (M : List Move) → length (due_now p n t M b) ≤ fuel → AdmitsTo M b (drained (λ N. admission p n t (T p n t) N b) fuel M)
  unfolding drained
  admits b zero M few = ended (due_now p n t M b) refl few
    where
      ended : (S : List ℕ) → due_now p n t M b ≡ S → length S ≤ 0 → AdmitsTo M b M
      ended [] e h = record {
        rest = same-all M b;
        result = admitted-none t (riders p (T p n t) (due_now p n t M b)) (batch_by p b (T p n t) M) (inflow_mid M b) (none_there (riders p (T p n t) (due_now p n t M b)) (first_map (rider_at p (T p n t)) (due_now p n t M b) None (ap (λ S. slice_get S 0) e)));
      }
      ended (x ∷ S) e h = absurd (omega (arith, h))
  admits b (suc fuel) M few = by_step (admit-step M b) (λ m e. admits b fuel (M ++ m ∷ []) (shorter m e))
    where
      shorter : (m : Move) → due_now p n t (M ++ m ∷ []) b ≡ drop 1 (due_now p n t M b) → length (due_now p n t (M ++ m ∷ []) b) ≤ fuel
      shorter m e = subst (λ S. length S ≤ fuel) (sym e) (one_less (due_now p n t M b) few)
        where
          one_less : (S : List ℕ) → length S ≤ suc fuel → length (drop 1 S) ≤ fuel
          one_less [] h = omega arith
          one_less (x ∷ S) h = omega (arith, h)

      by_step : AdmitStep M b → ((m : Move) → due_now p n t (M ++ m ∷ []) b ≡ drop 1 (due_now p n t M b) → AdmitsTo (M ++ m ∷ []) b (drained (λ N. admission p n t (T p n t) N b) fuel (M ++ m ∷ [])))
          → AdmitsTo M b (grow (drained (λ N. admission p n t (T p n t) N b) fuel) M (admission p n t (T p n t) M b))
      by_step (none-let-in e r) ih = subst (λ o. AdmitsTo M b (grow (drained (λ N. admission p n t (T p n t) N b) fuel) M o)) (sym e) (record { rest = same-all M b; result = r })
      by_step (one-let-in m e drops here r) ih =
          let go = ih m drops in
          subst (λ o. AdmitsTo M b (grow (drained (λ N. admission p n t (T p n t) N b) fuel) M o)) (sym e)
          (record { rest = leaves-more M (M ++ m ∷ []) (drained (λ N. admission p n t (T p n t) N b) fuel (M ++ m ∷ [])) b here go.rest; result = r ∙ go.result })

  few-wait : (b : ℕ) (M : List Move) → length (due_now p n t M b) ≤ vehicle_count p
  unfolding waiting_for
  few-wait b M =
      distinct_below (vehicle_count p) (due_now p n t M b) (distinct_filter (λ u. nat_le (departure_of p u) t) (staying M (waiting_for p b (T p n t))) (distinct_filter (λ u. not (has_moved u M)) (waiting_for p b (T p n t)) (waiting-distinct p n t b)))
      (all_from (λ v. v < vehicle_count p) (due_now p n t M b)
      (λ i v e. let k = kept_at (λ u. nat_le (departure_of p u) t) (staying M (waiting_for p b (T p n t))) i v e in
      let j = kept_at (λ u. not (has_moved u M)) (waiting_for p b (T p n t)) (k.1.0) v (k.1.1) in
      let g = kept_at (λ u. is_first b (first_link p u) && not (has_moved u (T p n t))) (vehicles_of p) (j.1.0) v (j.1.1) in
      let r = in_range (vehicle_count p) 0 (g.1.0) v (g.1.1) in omega (arith, r)))
    where
      in_range : (k from i v : ℕ) → slice_get (range_with_len from k) i ≡ Some v → v < from + k
      in_range zero from i v e = cc
      in_range (suc k) from zero v e = let same : from ≡ v = some_nat from v e in omega (arith, same)
        where
          some_nat : (a b : ℕ) → Some a ≡ Some b → a ≡ b
          some_nat a b h = cc
      in_range (suc k) from (suc i) v e = let r = in_range k (from + 1) i v e in omega (arith, r)

  -- an out-link that has had its turn
  closes-to : (b : ℕ) (M M' : List Move) → AdmitsTo M b M' → closed_out t (out_mid p n t M b) ≡ out_done p n t M' b
  closes-to b M M' a =
      ap (λ w. closed_with t (out_mid p n t M b) w) a.result
      ∙ ap (λ S. record (out_done p n t M' b) { waiting = record { later = riders p (T p n t) S; due = riders p (T p n t) (due_now p n t M' b) } }) (sym a.rest.later)

  abbrev done_of : OutLink → OutLink
  done_of o = record o { inflow = closed o.inflow; batch = []; mail = sent t o.batch o.mail }

  pub record OutsPass (M : List Move) (bs : List ℕ) (M' : List Move) : Type 0 where
    pub ins : (l : ℕ) → in_done p n t M' l ≡ in_done p n t M l
    pub arrived : arrived_mid p n t M' ≡ arrived_mid p n t M
    pub others : (c : ℕ) → absent c bs ≡ true → out_mid p n t M' c ≡ out_mid p n t M c
    pub result : map (closed_out t) (map (out_mid p n t M) bs) ≡ map (out_done p n t M') bs

  pub outs-pass : (bs : List ℕ) → distinct bs ≡ true → (M : List Move) → OutsPass M bs (pass_links (vehicle_count p) (λ b N. admission p n t (T p n t) N b) bs M)
  unfolding pass_links
  outs-pass [] d M = record { ins = λ l. refl; arrived = refl; others = λ c a. refl; result = refl }
  outs-pass (b ∷ bs) d M =
      let parts = both_true (absent b bs) (distinct bs) d in
      let A = admits b (vehicle_count p) M (few-wait b M) in
      let M1 = drained (λ N. admission p n t (T p n t) N b) (vehicle_count p) M in
      let R = outs-pass bs parts.1 M1 in
      let first : closed_out t (out_mid p n t M b) ≡ out_done p n t (pass_links (vehicle_count p) (λ c N. admission p n t (T p n t) N c) bs M1) b = closes-to b M M1 A ∙ ap (λ o. done_of o) (sym (R.others b parts.0)) in
      let same : map (out_mid p n t M) bs ≡ map (out_mid p n t M1) bs = others_same M M1 bs (absent_all b bs parts.0) A.rest in
      record {
        ins = λ l. R.ins l ∙ A.rest.ins l;
        arrived = R.arrived ∙ A.rest.arrived;
        others = λ c a. let away_from = head_parts (eqb b c) (list_any (λ y. eqb y c) bs) a in R.others c away_from.1 ∙ A.rest.others c (eqb-false b c away_from.0);
        result = rw first (ap (λ os. out_done p n t (pass_links (vehicle_count p) (λ c N. admission p n t (T p n t) N c) bs M1) b ∷ os) (ap (λ os. map (closed_out t) os) same ∙ R.result));
      }
    where
      others_same : (M M1 : List Move) (cs : List ℕ) → All (λ c. b ≢ c) cs → Leaves M M1 b → map (out_mid p n t M) cs ≡ map (out_mid p n t M1) cs
      others_same M M1 [] a x = refl
      others_same M M1 (c ∷ cs) a x = let e : out_mid p n t M1 c ≡ out_mid p n t M c = x.others c (All-head (λ c. b ≢ c) c cs a) in ap (λ o. o ∷ map (out_mid p n t M) cs) (sym e) ∙ ap (λ os. out_mid p n t M1 c ∷ os) (others_same M M1 cs (All-tail (λ c. b ≢ c) c cs a) x)
