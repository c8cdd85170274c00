-- Cells in which nobody is ready in a step.
use Rattle.std.specs.List.{last_or}
use Rattle.std.specs.Prelude.{All, IfSome, map, nat_lt, slice_get, sum}
use Rattle.std.proofs.Common.{◌≡◌, ℕ, ◌+◌, ◌-◌, ◌<◌, Bool, true, false, cond, List, [], ◌∷◌, length, take, drop, refl, ap, sym, ◌∙◌, arith, Option, None, Some}
use Rattle.std.proofs.lemmas.List.{take-append-drop}
use Rattle.std.proofs.lemmas.List.Elements.{All-drop, All-head, All-tail, All-take}
use Rattle.std.proofs.lemmas.List.Sums.{sum_by-cons}
use Rattle.dta_model.specs.Riders.{RiderState}
use Rattle.cell_stages.specs.CellState.{CellState}
use Rattle.node_transfer.specs.Inside.Cells.{IsShut, finished, joined_behind, link_after, passed_front, passed_link, passed_links, passed_rotated, put_first, start_at, transferred}
use Rattle.capacity_credits.specs.Meter.{MeterState, closed, granted}
use Rattle.node_transfer.specs.Inside.Outs.{capped_by, closed_out, closed_with, opened_out, released}
use Rattle.node_transfer.specs.Inside.Pass.{by_target, passed, penalty_of, place_of, turn_links, head_action, head_action_by}
use Rattle.node_transfer.specs.Exits.{opened_exit}
use Rattle.node_transfer.specs.Rest.{HeadIsLater, IsQuietLink, WaitLater}
use Rattle.cell_stages.specs.declared.in_link.InLink.{InLink}
use Rattle.cell_stages.specs.Contents.{sent}
use Rattle.cell_stages.specs.declared.mail.Mail.{Mail}
use Rattle.cell_stages.specs.declared.mail.Mail.TheVariants.{Away, Batch, Room}
use Rattle.cell_stages.specs.declared.out_link.OutLink.{OutLink}
use Rattle.cell_stages.specs.declared.exit.Exit.{Exit}
use Rattle.node_transfer.specs.declared.step.pass.HeadAction.TheVariants.{Stays}
use Rattle.cell_stages.specs.declared.turn.LimitedTurn.{LimitedTurn}
use Rattle.link_queues.specs.Leavings.{pushed}
use Rattle.node_transfer.proofs.OfStep.Meters.{closed-opened}
use Rattle.node_transfer.proofs.OfStep.Outs.{admitted-none, not_le}

-- a head that isn't ready stays
target-stays : (step ready : ℕ) (turns : List LimitedTurn) (outs : List OutLink) (target : Option ℕ) → step < ready
    → by_target step ready turns outs target ≡ Stays
target-stays step ready turns outs None h = rw (not_le ready step h) refl
target-stays step ready turns outs (Some b) h =
    rw (not_le (ready + penalty_of (slice_get turns (place_of b (turn_links turns)))) step (omega (arith, h))) refl

head_action-stays : (step : ℕ) (exit : Exit) (outs : List OutLink) (r : RiderState)
    → IfSome (last_or None r.entries) (λ entry. step < entry + exit.free) → head_action step exit outs r ≡ Stays
unfolding head_action
head_action-stays step exit outs r h = by_entry (last_or None r.entries) h
  where
    by_test : (c : Bool) (entry : ℕ) → step < entry + exit.free
        → cond c (by_target step (entry + exit.free) exit.turns outs (slice_get r.ahead 0)) Stays ≡ Stays
    by_test true entry later = target-stays step (entry + exit.free) exit.turns outs (slice_get r.ahead 0) later
    by_test false entry later = refl

    by_entry : (o : Option ℕ) → IfSome o (λ entry. step < entry + exit.free)
        → head_action_by step exit outs o (slice_get r.ahead 0) ≡ Stays
    by_entry None later = refl
    by_entry (Some entry) later = by_test (nat_lt 0 exit.outflow.left) entry later

passed-stays : (step : ℕ) (line : List RiderState) (exit : Exit) (outs : List OutLink) (arrived : List RiderState)
    → IfSome (slice_get line 0) (λ r. IfSome (last_or None r.entries) (λ entry. step < entry + exit.free))
    → passed step line exit outs arrived ≡ record { line = line; exit = exit; outs = outs; arrived = arrived }
unfolding passed
passed-stays step [] exit outs arrived h = refl
passed-stays step (r ∷ line) exit outs arrived h = rw (head_action-stays step exit outs r h, passed) refl

none_less : (k : ℕ) → k - k ≡ 0
none_less k = omega arith

-- where nobody left in the last steps, one more such step changes nothing
nobody-pushed : (xs : List ℕ) → sum xs ≡ 0 → pushed 0 xs ≡ xs
nobody-pushed [] h = refl
nobody-pushed (x ∷ xs) h =
    let here : x ≡ 0 = omega (arith, sum_by-cons (λ y. y) x xs, h) in
    let rest : sum xs ≡ 0 = omega (arith, sum_by-cons (λ y. y) x xs, h) in
    ap (λ y. 0 ∷ take (length xs) (y ∷ xs)) here ∙ ap (λ ys. 0 ∷ ys) (nobody-pushed xs rest) ∙ ap (λ y. y ∷ xs) (sym here)

-- a link whose head doesn't move: nobody leaves
pub nobody-leaves : (step : ℕ) (link : InLink) (outs : List OutLink) (arrived : List RiderState)
    → passed step link.line (opened_exit step link.exit) outs arrived ≡ record { line = link.line; exit = opened_exit step link.exit; outs = outs; arrived = arrived } → IsShut link.exit
    → passed_link step link outs arrived ≡ record { link = record link { left = pushed 0 link.left }; outs = outs; arrived = arrived }
nobody-leaves step link outs arrived stays shut =
    ap (link_after link) stays
    ∙ ap (λ g. record { link = record link { left = pushed (length link.line - length link.line) link.left; exit = g }; outs = outs; arrived = arrived }) (closed-opened step link.exit ∙ shut)
    ∙ ap (λ k. record { link = record link { left = pushed k link.left }; outs = outs; arrived = arrived }) (none_less (length link.line))

-- as that of a link whose head isn't ready
pub link-waits : (step : ℕ) (link : InLink) (outs : List OutLink) (arrived : List RiderState) → HeadIsLater step link → IsShut link.exit
    → passed_link step link outs arrived ≡ record { link = record link { left = pushed 0 link.left }; outs = outs; arrived = arrived }
link-waits step link outs arrived later shut = nobody-leaves step link outs arrived (passed-stays step link.line (opened_exit step link.exit) outs arrived later) shut

-- a link that is quiet, and whose exit is shut
pub record StaysShut (step : ℕ) (link : InLink) : Type 0 where
  pub quiet : IsQuietLink step link
  pub exit : IsShut link.exit

link-stays : (step : ℕ) (link : InLink) (outs : List OutLink) (arrived : List RiderState) → StaysShut step link
    → passed_link step link outs arrived ≡ record { link = link; outs = outs; arrived = arrived }
link-stays step link outs arrived h =
    link-waits step link outs arrived h.quiet.head h.exit
    ∙ ap (λ xs. record { link = record link { left = xs }; outs = outs; arrived = arrived }) (nobody-pushed link.left h.quiet.left)

links-stay : (step : ℕ) (xs : List InLink) (outs : List OutLink) (arrived : List RiderState) → All (StaysShut step) xs
    → passed_links step xs outs arrived ≡ record { ins = xs; outs = outs; arrived = arrived }
unfolding passed_links
links-stay step [] outs arrived a = refl
links-stay step (x ∷ xs) outs arrived a =
    ap (λ w. put_first w.link (passed_links step xs w.outs w.arrived))
    (link-stays step x outs arrived (All-head (StaysShut step) x xs a))
    ∙ ap (put_first x) (links-stay step xs outs arrived (All-tail (StaysShut step) x xs a))

rotated-stays : (step k : ℕ) (xs : List InLink) (outs : List OutLink) (arrived : List RiderState) → All (StaysShut step) xs
    → passed_rotated step k xs outs arrived ≡ record { ins = xs; outs = outs; arrived = arrived }
rotated-stays step k xs outs arrived a =
    ap (passed_front step (take k xs)) (links-stay step (drop k xs) outs arrived (All-drop (StaysShut step) k xs a))
    ∙ ap (joined_behind (record { ins = drop k xs; outs = outs; arrived = arrived }))
    (links-stay step (take k xs) outs arrived (All-take (StaysShut step) k xs a))
    ∙ ap (λ is. record { ins = is; outs = outs; arrived = arrived }) (take-append-drop k xs)

-- nobody who waits becomes due
released-later : (step : ℕ) (later due : List RiderState) → IfSome (slice_get later 0) (λ r. step < r.departure)
    → released step later due ≡ record { later = later; due = due }
unfolding released
released-later step [] due h = refl
released-later step (r ∷ later) due h = rw (not_le r.departure step h) refl

closed-capped : (mail : Mail) (m : MeterState) → closed (capped_by mail m) ≡ closed m
closed-capped Away m = refl
closed-capped (Room step None) m = refl
closed-capped (Room step (Some room)) m = refl
closed-capped (Batch step line) m = refl

-- an out-link of which no step is open, for which nobody waits, and of which the batch is empty
pub record StaysEmpty (step : ℕ) (o : OutLink) : Type 0 where
  pub waits : WaitLater step o
  pub none : o.batch ≡ []
  pub inflow : closed o.inflow ≡ o.inflow

out-stays : (step : ℕ) (o : OutLink) → StaysEmpty step o → closed_out step (opened_out step o) ≡ o
out-stays step o h =
    let m = capped_by o.mail (granted step o.inflow) in
    let opened : OutLink = record o { inflow = m } in
    ap (λ x. closed_out step (record o { inflow = m; waiting = x })) (released-later step o.waiting.later o.waiting.due h.waits.later)
    ∙ ap (closed_with step opened) (admitted-none step o.waiting.due o.batch m (ap (λ xs. length xs) h.waits.due))
    ∙ ap (λ k. record o { inflow = k; batch = []; mail = sent step o.batch o.mail }) (closed-capped o.mail (granted step o.inflow) ∙ h.inflow)
    ∙ ap (λ xs. record o { batch = []; mail = sent step xs o.mail }) h.none
    ∙ ap (λ xs. record o { batch = xs }) (sym h.none)

outs-stay : (step : ℕ) (os : List OutLink) → All (StaysEmpty step) os → map (closed_out step) (map (opened_out step) os) ≡ os
outs-stay step [] a = refl
outs-stay step (o ∷ os) a =
    ap (λ x. x ∷ map (closed_out step) (map (opened_out step) os)) (out-stays step o (All-head (StaysEmpty step) o os a))
    ∙ ap (λ xs. o ∷ xs) (outs-stay step os (All-tail (StaysEmpty step) o os a))

-- the transfer of such a cell
pub transferred-stays : (step : ℕ) (s : CellState) → All (StaysShut step) s.ins → All (StaysEmpty step) s.outs → transferred step s ≡ s
transferred-stays step s shut empty =
    ap (finished step s) (rotated-stays step (start_at step s.ins) s.ins (map (opened_out step) s.outs) s.arrived shut)
    ∙ ap (λ os. record s { outs = os }) (outs-stay step s.outs empty)
