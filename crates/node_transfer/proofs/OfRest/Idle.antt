-- Nodes at which nobody moves in a step.
use Rattle.std.specs.Prelude.{All, nat_eq}
use Rattle.std.proofs.Common.{◌≡◌, ℕ, suc, ◌<◌, Bool, true, false, cond, ◌||◌, List, [], ◌∷◌, ◌++◌, length, map, refl, ap, sym, ◌∙◌, subst, append-nil}
use Rattle.std.proofs.lemmas.Bool.{eq-eqb, eqb-true}
use Rattle.std.proofs.lemmas.List.Elements.{All-cons, All-head, All-nil, All-tail}
use Rattle.dta_model.specs.Plans.{ins, link_at, outs}
use Rattle.dta_model.specs.Riders.{RiderState}
use Rattle.cell_stages.specs.Stages.{batch_mail, line_after, line_before, room_mail, waiting_after, waiting_before}
use Rattle.dta_model.specs.declared.plan.Plan.{Plan}
use Rattle.cell_stages.specs.CellState.{CellState}
use Rattle.node_transfer.specs.Exchange.{is_among}
use Rattle.node_transfer.specs.Gathered.{mail_line, room_after}
use Rattle.node_transfer.specs.Places.{out_mail_put}
use Rattle.cell_stages.specs.Contents.{IsStep, away, batch_of, cell_after, cell_before, in_link, left_after, left_before, out_link, room_of, storage_by}
use Rattle.cell_stages.specs.Contents.{told as told_mail}
use Rattle.node_transfer.specs.Rest.{AreTold, room_left_on, IsQuiet, IsQuietLink, NobodyComes, QuietNodesStayIdle, StaysIdle, WaitLater}
use Rattle.cell_stages.specs.declared.in_link.InLink.{InLink}
use Rattle.cell_stages.specs.declared.mail.Mail.{Mail}
use Rattle.cell_stages.specs.declared.mail.Mail.TheVariants.{Away, Room}
use Rattle.cell_stages.specs.declared.out_link.OutLink.{OutLink}
use Rattle.cell_stages.proofs.MailTells.{room-stays}
use Rattle.node_transfer.proofs.OfMail.Parts.{ins-member, ins-same, outs-member}
use Rattle.node_transfer.proofs.OfRest.Quiet.{StaysEmpty, StaysShut, transferred-stays}
use Rattle.node_transfer.proofs.OfStep.Gather.{line-next, outs-next}
use Rattle.node_transfer.proofs.OfStep.Left.{left-next, room-same}
use Rattle.node_transfer.proofs.OfStep.MailLines.{batch-line, no-riders, room-line}
use Rattle.node_transfer.proofs.OfStep.Meters.{exit-shut}
use Rattle.node_transfer.proofs.OfStep.Transfer.{transfer-stage}

-- where two lists made of the same numbers agree, what is made of each number does
same-at : {X : Type 0} (f g : ℕ → X) (xs : List ℕ) (l : ℕ) → map f xs ≡ map g xs → is_among xs l ≡ true → f l ≡ g l
same-at f g [] l h a = cc
same-at f g (x ∷ xs) l h a =
    let here : f x ≡ g x = cc in
    let rest : map f xs ≡ map g xs = cc in
    by_test here (nat_eq x l) refl a (λ k. same-at f g xs l rest k)
  where
    by_test : f x ≡ g x → (c : Bool) → nat_eq x l ≡ c → (c || is_among xs l) ≡ true → (is_among xs l ≡ true → f l ≡ g l) → f l ≡ g l
    by_test here true e a later = subst (λ y. f y ≡ g y) (eqb-true x l e) here
    by_test here false e a later = later a

module _ (p : Plan) (n t : ℕ) (step : IsStep p n t) where
  -- the links of the cell before the transfer and after it
  abbrev in_before : ℕ → InLink
  in_before = in_link p n (line_before p t) (left_before p t) away

  abbrev out_before : (ℕ → Mail) → ℕ → OutLink
  out_before mail = out_link p t (waiting_before p t) mail

  abbrev out_after : (ℕ → Mail) → ℕ → OutLink
  out_after mail = out_link p (suc t) (waiting_after p n t) mail

  all_shut : (ls : List ℕ) → All (IsQuietLink t) (map in_before ls) → All (StaysShut t) (map in_before ls)
  all_shut [] q = All-nil (StaysShut t)
  all_shut (l ∷ ls) q =
      All-cons (StaysShut t) (in_before l) (map in_before ls)
      (record {
        quiet = All-head (IsQuietLink t) (in_before l) (map in_before ls) q;
        exit = exit-shut p n t l;
      })
      (all_shut ls (All-tail (IsQuietLink t) (in_before l) (map in_before ls) q))

  -- who waits doesn't depend on the mail
  all_empty : (bs : List ℕ) → All (WaitLater t) (map (out_before away) bs) → All (StaysEmpty t) (map (out_before (room_of p t)) bs)
  all_empty [] w = All-nil (StaysEmpty t)
  all_empty (b ∷ bs) w =
      let here = All-head (WaitLater t) (out_before away b) (map (out_before away) bs) w in
      All-cons (StaysEmpty t) (out_before (room_of p t) b) (map (out_before (room_of p t)) bs)
      (record { waits = record { due = here.due; later = here.later }; none = refl; inflow = refl })
      (all_empty bs (All-tail (WaitLater t) (out_before away b) (map (out_before away) bs) w))

  quiet-after : IsQuiet t (cell_before p n t away away) → cell_after p n t away (batch_of p t) ≡ cell_before p n t away (room_of p t)
  unfolding cell_before
  quiet-after q =
      sym (transfer-stage p step.sound n t)
      ∙ transferred-stays t (cell_before p n t away (room_of p t)) (all_shut (ins p n) q.links) (all_empty (outs p n) q.waits)

  -- the mail of the out-links is left out
  abbrev mailless : CellState → CellState
  mailless s = record s { outs = map (out_mail_put Away) s.outs }

  none-told : (steps : ℕ) (waiting : ℕ → List RiderState) (mail : ℕ → Mail) (bs : List ℕ)
      → map (out_mail_put Away) (map (out_link p steps waiting mail) bs) ≡ map (out_link p steps waiting away) bs
  none-told steps waiting mail [] = refl
  none-told steps waiting mail (b ∷ bs) = ap (λ os. out_link p steps waiting away b ∷ os) (none-told steps waiting mail bs)

  same-after : cell_after p n t away (batch_of p t) ≡ cell_before p n t away (room_of p t) → cell_after p n t away away ≡ cell_before p n t away away
  unfolding cell_before cell_after
  same-after e =
      ap (λ os. record (cell_after p n t away away) { outs = os }) (sym (none-told (suc t) (waiting_after p n t) (batch_of p t) (outs p n)))
      ∙ ap mailless e
      ∙ ap (λ os. record (cell_before p n t away away) { outs = os }) (none-told t (waiting_before p t) (room_of p t) (outs p n))

  no-batches : cell_after p n t away (batch_of p t) ≡ cell_before p n t away (room_of p t)
      → (b : ℕ) → b < length p.net.links → (link_at p b).from.0 ≡ n → batch_mail p b t ≡ []
  unfolding cell_before cell_after
  no-batches e b below from =
      sym (batch-line p t b)
      ∙ ap (λ o. mail_line o.mail)
      (same-at (out_after (batch_of p t)) (out_before (room_of p t)) (outs p n) b (ap (λ s. s.outs) e) (outs-member p n b below ∙ eq-eqb (link_at p b).from.0 n from))
      ∙ room-line p t b

  -- where nobody comes, the in-links are those after the transfer
  abbrev in_next : ℕ → InLink
  in_next = in_link p n (line_before p (suc t)) (left_before p (suc t)) away

  ins-next : NobodyComes p n t → map in_next (ins p n) ≡ map (in_link p n (line_after p n t) (left_after p n t) away) (ins p n)
  ins-next none = ins-same p n in_next (in_link p n (line_after p n t) (left_after p n t) away)
      (λ l below to.
      ap (λ line. record (in_next l) { line = line })
      (line-next p step.sound n t l below to ∙ ap (λ come. line_after p n t l ++ come) (none l below to) ∙ append-nil (line_after p n t l))
      ∙ ap (λ gone. record (in_link p n (line_after p n t) (left_after p n t) away l) { left = gone }) (left-next p step.sound n t l below to))

  gather-keeps : NobodyComes p n t → cell_before p n (suc t) away away ≡ cell_after p n t away away
  unfolding cell_before cell_after
  gather-keeps none =
      ap (λ is. record (cell_before p n (suc t) away away) { ins = is }) (ins-next none)
      ∙ ap (λ os. record (cell_after p n t away away) { outs = os }) (sym (outs-next p step.sound n t))

  -- and the links keep their rooms
  rooms-stay : cell_before p n (suc t) away away ≡ cell_before p n t away away
      → (l : ℕ) → l < length p.net.links → (link_at p l).to.0 ≡ n → room_mail p l (suc t) ≡ room_mail p l t
  unfolding cell_before
  rooms-stay e l below to =
      let same = same-at in_next in_before (ins p n) l (ap (λ s. s.ins) e) (ins-member p n l below ∙ eq-eqb (link_at p l).to.0 n to) in
      sym (room-same p (suc t) l)
      ∙ ap (λ link. room_after (storage_by p.queue (link_at p l).storage) link.line link.left) same
      ∙ room-same p t l

  -- where all mail tells what rooms the links leave, nobody comes, and it stays
  told-nobody : AreTold p n t → NobodyComes p n t
  told-nobody told l below to = no-riders p t l (room_left_on p n t l) (told l below to)

  told-rooms : AreTold p n t → (l : ℕ) → l < length p.net.links → (link_at p l).to.0 ≡ n → room_of p (suc t) l ≡ batch_of p t l
  unfolding room_of
  told-rooms told l below to =
      let same = same-at in_next (in_link p n (line_after p n t) (left_after p n t) away) (ins p n) l (ins-next (told-nobody told)) (ins-member p n l below ∙ eq-eqb (link_at p l).to.0 n to) in
      let room : room_mail p l (suc t) ≡ room_left_on p n t l =
      sym (room-same p (suc t) l) ∙ ap (λ link. room_after (storage_by p.queue (link_at p l).storage) link.line link.left) same in
      ap (λ r. told_mail (suc t) r (batch_of p t l)) room
      ∙ ap (λ c. cond c (batch_of p t l) (Room (suc t) (room_left_on p n t l))) (told l below to)

  stays-idle : StaysIdle p n t
  stays-idle = record {
    quiet = λ q. let e = quiet-after q in
        record { after = same-after e; batches = no-batches e; rooms = λ none l below to. room-stays p t l (none l below to) (rooms-stay (gather-keeps none ∙ same-after e) l below to) };
    gather = gather-keeps;
    told = λ told. record { nobody = told-nobody told; rooms = told-rooms told };
  }

pub quiet_nodes_stay_idle : QuietNodesStayIdle
quiet_nodes_stay_idle p n t step = stays-idle p n t step
