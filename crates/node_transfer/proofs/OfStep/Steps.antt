-- What one part of a step leaves to the next.
use Rattle.std.proofs.Common.{◌≡◌, ℕ, ◌+◌, Bool, true, false, cond, List, [], ◌∷◌, ◌++◌, length, length-append, map, refl, ap, sym, subst, arith}
use Rattle.std.specs.Prelude.{All, nat_le}
use Rattle.std.specs.List.{sum_by}
use Rattle.std.proofs.lemmas.List.Sums.{sum_by-cons}
use Rattle.std.proofs.lemmas.List.Elements.{All-head, All-tail, All-cons, All-nil}
use Rattle.dta_model.specs.Riders.{RiderState}
use Rattle.node_transfer.specs.Inside.Pass.{Rides, held, out_links, waitings}
use Rattle.node_transfer.specs.Inside.Outs.{released, opened_out}
use Rattle.cell_stages.specs.CellState.{CellState}
use Rattle.node_transfer.specs.Inside.Cells.{CanTransfer, CanCross, UnderWay, Waits}
use Rattle.cell_stages.specs.declared.out_link.OutLink.{OutLink}
use Rattle.cell_stages.specs.declared.out_link.Waiting.{Waiting}

abbrev wait_length : Waiting → ℕ
wait_length w = length w.later + length w.due

released-length : (step : ℕ) (later due : List RiderState) → wait_length (released step later due) ≡ length later + length due
unfolding released
released-length step [] due = refl
released-length step (r ∷ later) due = step_length (nat_le r.departure step) (released-length step later (due ++ r ∷ []))
  where
    step_length : (b : Bool) → wait_length (released step later (due ++ r ∷ [])) ≡ length later + length (due ++ r ∷ []) → wait_length (cond b (released step later (due ++ r ∷ [])) (record { later = r ∷ later; due = due })) ≡ length (r ∷ later) + length due
    step_length true h = omega (arith, h, length-append due (r ∷ []))
    step_length false h = refl

pub opened-held : (step : ℕ) (o : OutLink) → held (opened_out step o) ≡ held o
opened-held step o = let e = released-length step o.waiting.later o.waiting.due in omega arith

pub opened-sum : (step : ℕ) (outs : List OutLink) → sum_by held (map (opened_out step) outs) ≡ sum_by held outs
opened-sum step [] = refl
opened-sum step (o ∷ outs) = let e = opened-held step o in let h = opened-sum step outs in omega (arith, sum_by-cons held o outs, sum_by-cons held (opened_out step o) (map (opened_out step) outs))

pub opened-links : (step : ℕ) (outs : List OutLink) → out_links (map (opened_out step) outs) ≡ out_links outs
opened-links step [] = refl
opened-links step (o ∷ outs) = ap (λ ls. o.link.0 ∷ ls) (opened-links step outs)

released-due : (step : ℕ) (later due : List RiderState) → All UnderWay later → All UnderWay due → All UnderWay (released step later due).due
unfolding released
released-due step [] due a d = d
released-due step (r ∷ later) due a d = step_due (nat_le r.departure step) (released-due step later (due ++ r ∷ []) (All-tail UnderWay r later a) (all_push due d (All-head UnderWay r later a)))
  where
    step_due : (b : Bool) → All UnderWay (released step later (due ++ r ∷ [])).due → All UnderWay (cond b (released step later (due ++ r ∷ [])) (record { later = r ∷ later; due = due })).due
    step_due true h = h
    step_due false h = d

    all_push : (xs : List RiderState) → All UnderWay xs → UnderWay r → All UnderWay (xs ++ r ∷ [])
    all_push [] h p = All-cons UnderWay r [] p h
    all_push (x ∷ xs) h p = All-cons UnderWay x (xs ++ r ∷ []) (All-head UnderWay x xs h) (all_push xs (All-tail UnderWay x xs h) p)

abbrev DueUnderWay : Waiting → Type 0
DueUnderWay w = All UnderWay w.due

waits_opened : (step : ℕ) (outs : List OutLink) → All Waits outs → All DueUnderWay (waitings (map (opened_out step) outs))
waits_opened step [] a = All-nil DueUnderWay
waits_opened step (o ∷ outs) a =
    let w = All-head Waits o outs a in
    All-cons DueUnderWay (released step o.waiting.later o.waiting.due) (waitings (map (opened_out step) outs)) (released-due step o.waiting.later o.waiting.due w.later w.due) (waits_opened step outs (All-tail Waits o outs a))

of_waitings : (outs : List OutLink) → All DueUnderWay (waitings outs) → All (λ o. All UnderWay o.waiting.due) outs
of_waitings [] a = All-nil _
of_waitings (o ∷ outs) a = All-cons (λ o. All UnderWay o.waiting.due) o outs (All-head DueUnderWay o.waiting (waitings outs) a) (of_waitings outs (All-tail DueUnderWay o.waiting (waitings outs) a))

pub due_under_way : (step : ℕ) (outs outs' : List OutLink) → All Waits outs → waitings outs' ≡ waitings (map (opened_out step) outs) → All (λ o. All UnderWay o.waiting.due) outs'
due_under_way step outs outs' a e = of_waitings outs' (subst (λ ws. All DueUnderWay ws) (sym e) (waits_opened step outs a))

pub can_cross : (step : ℕ) (s : CellState) → CanTransfer s → CanCross s.ins (map (opened_out step) s.outs) s.arrived
can_cross step s c = record {
  rides = subst (λ ls. All (λ link. All (Rides ls) link.line) s.ins) (sym (opened-links step s.outs)) c.rides;
  shut = c.shut;
  fits = let f = c.fits in let e = opened-sum step s.outs in omega arith;
}
