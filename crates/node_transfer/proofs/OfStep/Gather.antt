-- The gather of a step leads from the content of a cell after its transfer to that before the next one.
use Rattle.std.specs.Prelude.{All}
use Rattle.std.proofs.Common.{◌≡◌, ℕ, suc, ◌<◌, ◌≤◌, [], ◌++◌, length, length-append, map, ap, sym, ◌∙◌, arith, add-one, get_or}
use Rattle.std.proofs.lemmas.List.{length-map}
use Rattle.std.proofs.lemmas.List.Elements.{All-map}
use Rattle.std.proofs.lemmas.Simd.{map-map}
use Rattle.dta_model.specs.Loading.{trace_after}
use Rattle.dta_model.specs.Plans.{ins, link_at, outs}
use Rattle.dta_model.specs.Riders.{rider_at}
use Rattle.dta_model.specs.Sound.{IsSound}
use Rattle.cell_stages.specs.Stages.{batch_mail, line_after, line_before, waiting_after, waiting_before}
use Rattle.dta_model.specs.Trace.{queue_of}
use Rattle.dta_model.specs.declared.plan.Plan.{Plan}
use Rattle.cell_stages.proofs.Gathering.{lines_gather}
use Rattle.cell_stages.proofs.NextLines.{waiting_lines_stay}
use Rattle.link_queues.specs.declared.line.TheConstants.{MOST_RIDERS}
use Rattle.node_transfer.specs.Inside.Cells.{CanGather}
use Rattle.node_transfer.specs.Gathered.{gathered, gathered_link, room_after, with_batch}
use Rattle.cell_stages.specs.Contents.{away, batch_of, cell_after, cell_before, in_link, left_after, left_before, out_link, room_of, storage_by, told, waiting_parts}
use Rattle.node_transfer.specs.Laws.{CellsGather}
use Rattle.cell_stages.specs.declared.in_link.InLink.{InLink}
use Rattle.node_transfer.proofs.OfMail.Parts.{ins-same, outs-same}
use Rattle.node_transfer.proofs.OfStep.InPass.{few-on, staying-none}
use Rattle.node_transfer.proofs.OfStep.Left.{left-next, room-same}
use Rattle.node_transfer.proofs.OfStep.MailLines.{batch-line}
use Rattle.node_transfer.proofs.OfStep.Transfer.{in_links, ins-there}

module _ (p : Plan) (sound : IsSound p) (n t : ℕ) where
  -- the line of an in-link in the next step
  pub line-next : (l : ℕ) → l < length p.net.links → (link_at p l).to.0 ≡ n → line_before p (suc t) l ≡ line_after p n t l ++ batch_mail p l t
  line-next l below to = lines_gather p sound t l below ∙ ap (λ k. line_after p k t l ++ batch_mail p l t) to

  -- the out-links stay
  pub outs-next : map (out_link p (suc t) (waiting_after p n t) away) (outs p n) ≡ map (out_link p (suc t) (waiting_before p (suc t)) away) (outs p n)
  outs-next = outs-same p n (out_link p (suc t) (waiting_after p n t) away) (out_link p (suc t) (waiting_before p (suc t)) away)
      (λ b below from. ap (λ w. record (out_link p (suc t) (waiting_after p n t) away b) { waiting = waiting_parts (suc t) w })
      (sym (waiting_lines_stay p sound t b below ∙ ap (λ k. waiting_after p k t b) from)))

  abbrev pub in_after : ℕ → InLink
  in_after = in_link p n (line_after p n t) (left_after p n t) (batch_of p t)

  abbrev pub in_next : ℕ → InLink
  in_next = in_link p n (line_before p (suc t)) (left_before p (suc t)) (room_of p (suc t))

  pub in-gathers : (l : ℕ) → l < length p.net.links → (link_at p l).to.0 ≡ n → gathered_link t (in_after l) ≡ in_next l
  unfolding room_of
  in-gathers l below to =
      ap (λ come. with_batch t (in_after l) (line_after p n t l ++ come)) (batch-line p t l)
      ∙ ap (λ line. with_batch t (in_after l) line) (sym (line-next l below to))
      ∙ ap (λ gone. with_batch t (record (in_after l) { left = gone }) (line_before p (suc t) l)) (sym (left-next p sound n t l below to))
      ∙ ap (λ k. record (in_next l) { mail = told k (room_after (storage_by p.queue (link_at p l).storage) (line_before p (suc t) l) (left_before p (suc t) l)) (batch_of p t l) }) (add-one t)
      ∙ ap (λ r. record (in_next l) { mail = told (suc t) r (batch_of p t l) }) (room-same p (suc t) l)

  pub gather-stage : gathered t (cell_after p n t (batch_of p t) away) ≡ cell_before p n (suc t) (room_of p (suc t)) away
  unfolding cell_before cell_after
  gather-stage =
      ap (λ is. record (cell_after p n t (batch_of p t) away) { ins = is })
      (map-map (gathered_link t) in_after (ins p n) ∙ ins-same p n (λ l. gathered_link t (in_after l)) in_next in-gathers)
      ∙ ap (λ os. record (cell_before p n (suc t) (room_of p (suc t)) away) { outs = os }) outs-next

  few-before : (l : ℕ) → length (line_before p (suc t) l) ≤ MOST_RIDERS
  unfolding line_before
  few-before l =
      let few = few-on p sound n (suc t) l [] in
      let same = ap (λ Q. length Q) (staying-none (queue_of l (trace_after p (suc t)))) in
      let count = length-map (queue_of l (trace_after p (suc t))) (rider_at p (trace_after p (suc t))) in
      let most = sound.trips.few in
      omega (arith, few, same, count, most)

  -- the line of an in-link has room for the batch
  pub in-can : (l : ℕ) → l < length p.net.links → (link_at p l).to.0 ≡ n → CanGather (in_after l)
  in-can l below to =
      let few = few-before l in
      let e = ap (λ L. length L) (line-next l below to) in
      let come = ap (λ L. length L) (batch-line p t l) in
      omega (arith, few, e, come, length-append (line_after p n t l) (batch_mail p l t))

  pub can-gather : All CanGather (cell_after p n t (batch_of p t) away).ins
  unfolding cell_after
  can-gather = All-map CanGather in_after (ins p n) (λ k d lt. in-can (get_or (ins p n) k d) (ins-there p n k d lt) (in_links p n k d lt))

pub cells_gather : CellsGather
cells_gather p sound t n node = sym (gather-stage p sound n t)
