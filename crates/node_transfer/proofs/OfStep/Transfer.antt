-- The transfer of a step leads from the content of a cell before it to that after it.
use Rattle.net_core.specs.Network as network
use Rattle.net_core.specs.Network.{numbers_below}
use Rattle.std.specs.Prelude.{nat_eq, All, cond}
use Rattle.std.proofs.Common.{◌≡◌, ℕ, zero, suc, ◌+◌, ◌<◌, ◌%◌, true, false, List, [], ◌∷◌, length, map, refl, ap, sym, ◌∙◌, subst, arith, append-nil}
use Rattle.std.proofs.lemmas.Bool.{eqb-true, ne_eqb}
use Rattle.std.proofs.lemmas.List.{length-map}
use Rattle.std.proofs.lemmas.List.Elements.{All-filter, All-weaker, filter_passes}
pub use Rattle.cell_stages.proofs.NextLines.{out_links}
use Rattle.cell_stages.proofs.NextLines.{below_all}
use Rattle.dta_model.specs.NodeMoves.{node_moves, in_order, rotated, head_move, admission}
use Rattle.cell_stages.specs.OnePass.{one_pass, pass_links}
use Rattle.dta_model.specs.Plans.{ins, link_at, link_rates, outs, vehicle_count}
use Rattle.dta_model.specs.Sound.{IsSound}
use Rattle.cell_stages.specs.Stages.{arrived_before, arriving, batch_by, batch_mail, brought, line_after, line_before, staying, waiting_after, waiting_before, waiting_for}
use Rattle.dta_model.specs.Trace.{Move}
use Rattle.dta_model.specs.declared.plan.Plan.{Plan}
use Rattle.cell_stages.proofs.OnePass.{one_pass_is_enough}
use Rattle.cell_stages.specs.CellState.{CellState}
use Rattle.node_transfer.specs.Inside.Cells.{transferred, finished, passed_rotated, start_at}
use Rattle.cell_stages.specs.Contents.{away, batch_of, room_of, cell_after, cell_before, in_link, left_after, left_before, out_link, sent}
use Rattle.capacity_credits.specs.Meter.{granted, unopened}
use Rattle.node_transfer.specs.Inside.Outs.{opened_out, capped_by}
use Rattle.node_transfer.proofs.OfStep.Due.{waiting-opens, parts-after}
use Rattle.node_transfer.proofs.OfStep.InPass.{RotatedPass, rotated-pass, passes}
use Rattle.node_transfer.proofs.OfMail.Parts.{ins-once, ins-same, outs-once, outs-same}
use Rattle.node_transfer.proofs.OfStep.Meters.{inflow-opens}
use Rattle.node_transfer.proofs.OfStep.Mid.{T, left_mid, in_done, out_done, out_mid, arrived_mid, waiting_mid}
use Rattle.node_transfer.proofs.OfStep.Left.{left-pushes}
use Rattle.node_transfer.proofs.OfStep.OutPass.{outs-pass}

pub in_links : (p : Plan) (n : ℕ) → All (λ l. (link_at p l).to.0 ≡ n) (ins p n)
unfolding network.ins
in_links p n =
    All-weaker (λ l. nat_eq (link_at p l).to.0 n ≡ true) (λ l. (link_at p l).to.0 ≡ n) (λ l h. eqb-true (link_at p l).to.0 n h)
    (ins p n) (filter_passes (λ l. nat_eq (link_at p l).to.0 n) (numbers_below (length p.net.links)))

-- they are in the table
pub ins-there : (p : Plan) (n : ℕ) → All (λ l. l < length p.net.links) (ins p n)
unfolding network.ins
ins-there p n =
    All-filter (λ l. nat_eq (link_at p l).to.0 n) (λ l. l < length p.net.links) (numbers_below (length p.net.links))
    (All-weaker (λ l. l < 0 + length p.net.links) (λ l. l < length p.net.links) (λ l h. omega (arith, h)) (numbers_below (length p.net.links)) (below_all (length p.net.links) 0))

rotated_start : (t : ℕ) (xs : List ℕ) → rotated (cond (nat_eq (length xs) 0) 0 (t % length xs)) xs ≡ rotated (t % length xs) xs
rotated_start t [] = none_rotated (t % 0)
  where
    none_rotated : (k : ℕ) → rotated 0 [] ≡ rotated k []
    none_rotated zero = refl
    none_rotated (suc k) = refl
rotated_start t (x ∷ xs) = let e : nat_eq (length (x ∷ xs)) 0 ≡ false = ne_eqb (suc (length xs)) 0 (λ z. absurd (omega (arith, z))) in rw e refl

module _ (p : Plan) (sound : IsSound p) (n t : ℕ) where
  -- the start of the step
  nobody_arrived : arrived_before p n t ≡ arrived_mid p n t []
  unfolding arriving
  nobody_arrived = sym (append-nil (arrived_before p n t))

  no_batch : (b : ℕ) → batch_by p b (T p n t) [] ≡ []
  unfolding brought
  no_batch b = refl

  out-opens : (b : ℕ) → opened_out t (out_link p t (waiting_before p t) (room_of p t) b) ≡ out_mid p n t [] b
  out-opens b =
      ap (λ w. record {
        link = record { 0 = b };
        inflow = capped_by (room_of p t b) (granted t (unopened p.delta (link_rates p b)));
        waiting = w;
        batch = [];
        mail = room_of p t b;
      }) (waiting-opens p sound n t b)
      ∙ ap (λ i. record { link = record { 0 = b }; inflow = i; waiting = waiting_mid p n t [] b; batch = []; mail = room_of p t b }) (inflow-opens p n t b)
      ∙ ap (λ B. record (out_mid p n t [] b) { batch = B }) (sym (no_batch b))

  outs-open : (bs : List ℕ) → map (opened_out t) (map (out_link p t (waiting_before p t) (room_of p t)) bs) ≡ map (out_mid p n t []) bs
  outs-open [] = refl
  outs-open (b ∷ bs) = rw (out-opens b, outs-open bs) refl

  -- the end of the step
  line-ends : (l : ℕ) → in_done p n t (node_moves p n t (T p n t)) l ≡ record (in_link p n (line_after p n t) (left_after p n t) away l) { left = left_mid p n t (line_after p n t l) l }
  unfolding line_after
  line-ends l = refl

  in-ends : (l : ℕ) → (link_at p l).to.0 ≡ n → in_done p n t (node_moves p n t (T p n t)) l ≡ in_link p n (line_after p n t) (left_after p n t) away l
  in-ends l to = line-ends l ∙ ap (λ x. record (in_link p n (line_after p n t) (left_after p n t) away l) { left = x }) (sym (left-pushes p sound n t l to))

  out-ends : (b : ℕ) → (link_at p b).from.0 ≡ n → out_done p n t (node_moves p n t (T p n t)) b ≡ out_link p (suc t) (waiting_after p n t) (batch_of p t) b
  unfolding waiting_after batch_mail
  out-ends b from =
      ap (λ w. record (out_done p n t (node_moves p n t (T p n t)) b) { waiting = w }) (sym (parts-after p (T p n t) t (staying (node_moves p n t (T p n t)) (waiting_for p b (T p n t)))))
      ∙ ap (λ a. record (out_link p (suc t) (waiting_after p n t) (batch_of p t) b) { mail = sent t (batch_by p b (T p n t) (node_moves p a t (T p n t))) (room_of p t b) }) (sym from)

  arrived-ends : arrived_mid p n t (node_moves p n t (T p n t)) ≡ arrived_before p n (suc t)
  unfolding arrived_before
  arrived-ends = refl

  start-is : rotated (start_at t (map (in_link p n (line_before p t) (left_before p t) away) (ins p n))) (ins p n) ≡ in_order p n t (T p n t)
  unfolding in_order
  start-is = ap (λ k. rotated (cond (nat_eq k 0) 0 (t % k)) (ins p n)) (length-map (ins p n) (in_link p n (line_before p t) (left_before p t) away)) ∙ rotated_start t (ins p n)

  abbrev after_ins : List Move
  after_ins = pass_links (vehicle_count p) (λ l N. head_move p n t (T p n t) N l) (in_order p n t (T p n t)) []

  abbrev after_outs : List Move
  after_outs = pass_links (vehicle_count p) (λ b N. admission p n t (T p n t) N b) (outs p n) after_ins

  whole : after_outs ≡ node_moves p n t (T p n t)
  unfolding one_pass
  whole = sym (one_pass_is_enough p sound n t)

  pub transfer-stage : transferred t (cell_before p n t away (room_of p t)) ≡ cell_after p n t away (batch_of p t)
  unfolding cell_before cell_after
  transfer-stage =
      let s : CellState = cell_before p n t away (room_of p t) in
      let k = start_at t s.ins in
      let R = subst (λ M. RotatedPass p sound n t (ins p n) k M) (ap (λ ls. passes p sound n t ls []) start-is) (rotated-pass p sound n t (ins p n) k (in_links p n) (ins-once p n)) in
      let O = outs-pass p sound n t (outs p n) (outs-once p n) after_ins in
      ap (λ os. finished t s (passed_rotated t k s.ins os s.arrived)) (outs-open (outs p n))
      ∙ ap (λ A. finished t s (passed_rotated t k s.ins (map (out_mid p n t []) (outs p n)) A)) nobody_arrived
      ∙ ap (λ w. finished t s w) R.result
      ∙ ap (λ os. record { ins = map (in_done p n t after_ins) (ins p n); outs = os; arrived = arrived_mid p n t after_ins }) (O.result ∙ ap (λ M. map (out_done p n t M) (outs p n)) whole ∙ outs-same p n (out_done p n t (node_moves p n t (T p n t))) (out_link p (suc t) (waiting_after p n t) (batch_of p t)) (λ b below from. out-ends b from))
      ∙ ap (λ is. record { ins = is; outs = map (out_link p (suc t) (waiting_after p n t) (batch_of p t)) (outs p n); arrived = arrived_mid p n t after_ins }) (ins-same p n (in_done p n t after_ins) (in_link p n (line_after p n t) (left_after p n t) away) (λ l below to. sym (O.ins l) ∙ ap (λ M. in_done p n t M l) whole ∙ in-ends l to))
      ∙ ap (λ A. record { ins = map (in_link p n (line_after p n t) (left_after p n t) away) (ins p n); outs = map (out_link p (suc t) (waiting_after p n t) (batch_of p t)) (outs p n); arrived = A }) (sym O.arrived ∙ ap (λ M. arrived_mid p n t M) whole ∙ arrived-ends)
