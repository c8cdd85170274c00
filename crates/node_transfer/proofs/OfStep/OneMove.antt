-- What one more move changes of the exits, turns and out-links of a cell.
use Rattle.std.specs.Prelude.{option_map}
use Rattle.std.proofs.Common.{◌≡◌, ℕ, ◌+◌, ◌-◌, Bool, true, false, cond, ◌&&◌, List, [], ◌∷◌, ◌++◌, map, refl, ap, sym, ◌∙◌, arith, append-nil, Option, Some, None}
use Rattle.std.proofs.lemmas.Bool.{eq-eqb, ne_eqb}
use Rattle.std.proofs.lemmas.List.Sums.{sum_by-append}
use Rattle.dta_model.specs.Allowance.{allowance}
use Rattle.dta_model.specs.NodeMoves.{left, entered, turned}
use Rattle.dta_model.specs.Plans.{link_rates, turn, turn_rates, outs}
use Rattle.dta_model.specs.Riders.{RiderState, rider_at, moved}
use Rattle.cell_stages.specs.Stages.{batch_by}
use Rattle.dta_model.specs.TimedWalks.{penalty_steps}
use Rattle.dta_model.specs.Trace.{Move, Onto, Arrived, leads_to, stands_on}
use Rattle.dta_model.specs.declared.plan.Plan.{Plan}
use Rattle.dta_model.proofs.Queues.{distinct}
use Rattle.node_transfer.specs.Places.{set_some}
use Rattle.cell_stages.specs.Contents.{is_limited, kept_turns}
use Rattle.capacity_credits.specs.Meter.{passed_one}
use Rattle.node_transfer.specs.Inside.Pass.{place_of, entered_at, entered_in, entered_out, used_at, used_in, used_turn, after_arrival, after_entry}
use Rattle.cell_stages.specs.declared.out_link.OutLink.{OutLink}
use Rattle.cell_stages.specs.declared.turn.LimitedTurn.{LimitedTurn}
use Rattle.node_transfer.proofs.OfStep.ByKey.{set-at}
use Rattle.node_transfer.proofs.OfStep.Mid.{T, meter_mid, meter_with, turn_mid, exit_mid, takes, waiting_mid, out_mid}

pub map-cong : {X Y : Type 0} (f f' : X → Y) → ((x : X) → f' x ≡ f x) → (xs : List X) → map f' xs ≡ map f xs
map-cong f f' e [] = refl
map-cong f f' e (x ∷ xs) = let h : f' x ≡ f x = e x in let r : map f' xs ≡ map f xs = map-cong f f' e xs in cc

entered_changed : (o : Option OutLink) (p step : ℕ) (r : RiderState) (outs : List OutLink) → entered_in o p step r outs ≡ set_some (entered_out step r) o p outs
entered_changed None p step r outs = refl
entered_changed (Some o) p step r outs = refl

used_changed : (o : Option LimitedTurn) (p : ℕ) (ts : List LimitedTurn) → used_in o p ts ≡ set_some used_turn o p ts
used_changed None p ts = refl
used_changed (Some o) p ts = refl

pub take_one : (a u v : ℕ) → v ≡ u + 1 → a - v ≡ a - u - 1
take_one a u v e = omega arith

module _ (p : Plan) (n t : ℕ) (M : List Move) (m : Move) where
  pub entered-push : (b : ℕ) → entered p n t (T p n t) (M ++ m ∷ []) b ≡ entered p n t (T p n t) M b + cond (leads_to b m) 1 0
  unfolding entered
  entered-push b = sum_by-append (λ x. cond (leads_to b x) 1 0) M (m ∷ []) ∙ omega arith

  pub left-push : (l : ℕ) → left p n t (T p n t) (M ++ m ∷ []) l ≡ left p n t (T p n t) M l + cond (stands_on l (T p n t) m.vehicle) 1 0
  unfolding left
  left-push l = sum_by-append (λ x. cond (stands_on l (T p n t) x.vehicle) 1 0) M (m ∷ []) ∙ omega arith

  pub turned-push : (l b : ℕ) → turned p n t (T p n t) (M ++ m ∷ []) l b ≡ turned p n t (T p n t) M l b + cond (leads_to b m && stands_on l (T p n t) m.vehicle) 1 0
  unfolding turned
  turned-push l b = sum_by-append (λ x. cond (leads_to b x && stands_on l (T p n t) x.vehicle) 1 0) M (m ∷ []) ∙ omega arith

  module _ (here : (b : ℕ) → batch_by p b (T p n t) (M ++ m ∷ []) ≡ batch_by p b (T p n t) M ++ cond (leads_to b m) (moved (rider_at p (T p n t) m.vehicle) t ∷ []) [])
      (waits : (b : ℕ) → waiting_mid p n t (M ++ m ∷ []) b ≡ waiting_mid p n t M b) where
    -- an out-link that the move doesn't lead to
    pub out-same : (b : ℕ) → leads_to b m ≡ false → out_mid p n t (M ++ m ∷ []) b ≡ out_mid p n t M b
    out-same b e =
        let c : entered p n t (T p n t) (M ++ m ∷ []) b ≡ entered p n t (T p n t) M b = entered-push b ∙ rw e (omega arith) in
        let f : batch_by p b (T p n t) (M ++ m ∷ []) ≡ batch_by p b (T p n t) M = here b ∙ rw e (append-nil (batch_by p b (T p n t) M)) in
        rw (c, f, waits b) refl

    -- the out-link that it leads to
    pub out-one : (b : ℕ) → leads_to b m ≡ true → out_mid p n t (M ++ m ∷ []) b ≡ entered_out t (rider_at p (T p n t) m.vehicle) (out_mid p n t M b)
    out-one b e =
        let c : takes p n t b - entered p n t (T p n t) (M ++ m ∷ []) b ≡ takes p n t b - entered p n t (T p n t) M b - 1 = take_one _ _ _ (entered-push b ∙ rw e refl) in
        let f : batch_by p b (T p n t) (M ++ m ∷ []) ≡ batch_by p b (T p n t) M ++ moved (rider_at p (T p n t) m.vehicle) t ∷ [] = here b ∙ rw e refl in
        rw (c, f, waits b) refl

    -- a move that arrives changes no out-link
    pub outs-arrival : (bs : List ℕ) → m.target ≡ Arrived → map (out_mid p n t (M ++ m ∷ [])) bs ≡ map (out_mid p n t M) bs
    outs-arrival bs e = map-cong (out_mid p n t M) (out_mid p n t (M ++ m ∷ [])) (λ b. out-same b (rw e refl)) bs

    -- a move onto a link changes that out-link
    pub outs-entry : (bs : List ℕ) (b : ℕ) → distinct bs ≡ true → m.target ≡ Onto b
        → entered_at (place_of b bs) t (rider_at p (T p n t) m.vehicle) (map (out_mid p n t M) bs) ≡ map (out_mid p n t (M ++ m ∷ [])) bs
    outs-entry bs b d e =
        entered_changed _ _ t (rider_at p (T p n t) m.vehicle) (map (out_mid p n t M) bs)
        ∙ set-at (out_mid p n t M) (out_mid p n t (M ++ m ∷ [])) (entered_out t (rider_at p (T p n t) m.vehicle)) b bs d
        (λ o ne. out-same o (rw e (ne_eqb b o (λ s. ne (sym s)))))
        (out-one b (rw e (eq-eqb b b refl)))

  module _ (l : ℕ) where
    -- the turns of an in-link
    turn-same : (b : ℕ) → leads_to b m ≡ false → turn_mid p n t (M ++ m ∷ []) l b ≡ turn_mid p n t M l b
    turn-same b e = let c : turned p n t (T p n t) (M ++ m ∷ []) l b ≡ turned p n t (T p n t) M l b = turned-push l b ∙ rw e (omega arith) in rw c refl

    turn-one : (b : ℕ) → leads_to b m ≡ true → stands_on l (T p n t) m.vehicle ≡ true → turn_mid p n t (M ++ m ∷ []) l b ≡ used_turn (turn_mid p n t M l b)
    turn-one b e s = ap (λ y. record { to = record { 0 = b }; penalty = penalty_steps (turn p l b); limit = y }) (by_limit (is_limited (turn_rates p l b)) (turned-push l b ∙ rw (e, s) refl))
      where
        by_limit : (c : Bool) → turned p n t (T p n t) (M ++ m ∷ []) l b ≡ turned p n t (T p n t) M l b + 1
            → cond c (Some (meter_mid p t (turn_rates p l b) (turned p n t (T p n t) (M ++ m ∷ []) l b))) None ≡ option_map passed_one (cond c (Some (meter_mid p t (turn_rates p l b) (turned p n t (T p n t) M l b))) None)
        by_limit false c = refl
        by_limit true c = ap (λ k. Some (meter_with p t (turn_rates p l b) k)) (take_one (allowance (turn_rates p l b) p.delta t) _ _ c)

    module _ (stood : stands_on l (T p n t) m.vehicle ≡ true) where
      left-one : left p n t (T p n t) (M ++ m ∷ []) l ≡ left p n t (T p n t) M l + 1
      left-one = left-push l ∙ rw stood refl

      pub exit-arrival : m.target ≡ Arrived → after_arrival (exit_mid p n t M l) ≡ exit_mid p n t (M ++ m ∷ []) l
      exit-arrival e =
          let c : allowance (link_rates p l) p.delta t - left p n t (T p n t) (M ++ m ∷ []) l ≡ allowance (link_rates p l) p.delta t - left p n t (T p n t) M l - 1 = take_one _ _ _ left-one in
          let ts : map (turn_mid p n t (M ++ m ∷ []) l) (kept_turns p n l) ≡ map (turn_mid p n t M l) (kept_turns p n l) = map-cong (turn_mid p n t M l) (turn_mid p n t (M ++ m ∷ []) l) (λ x. turn-same x (rw e refl)) (kept_turns p n l) in
          rw (c, ts) refl

      pub exit-entry : (b : ℕ) → distinct (kept_turns p n l) ≡ true → m.target ≡ Onto b
          → after_entry (place_of b (kept_turns p n l)) (exit_mid p n t M l) ≡ exit_mid p n t (M ++ m ∷ []) l
      exit-entry b d e =
          let c : allowance (link_rates p l) p.delta t - left p n t (T p n t) (M ++ m ∷ []) l ≡ allowance (link_rates p l) p.delta t - left p n t (T p n t) M l - 1 = take_one _ _ _ left-one in
          let ts : used_at (place_of b (kept_turns p n l)) (map (turn_mid p n t M l) (kept_turns p n l)) ≡ map (turn_mid p n t (M ++ m ∷ []) l) (kept_turns p n l) =
          used_changed _ _ (map (turn_mid p n t M l) (kept_turns p n l))
          ∙ set-at (turn_mid p n t M l) (turn_mid p n t (M ++ m ∷ []) l) used_turn b (kept_turns p n l) d
          (λ x ne. turn-same x (rw e (ne_eqb b x (λ s. ne (sym s)))))
          (turn-one b (rw e (eq-eqb b b refl)) stood) in
          rw (c, ts) refl
