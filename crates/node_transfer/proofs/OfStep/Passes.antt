-- Steps of a pass.
use Rattle.link_queues.specs.declared.line.TheConstants.{MOST_RIDERS}
use Rattle.std.proofs.Common.{◌≡◌, ℕ, zero, suc, ◌+◌, ◌<◌, ◌≤◌, Bool, true, false, cond, ◌&&◌, List, [], ◌∷◌, ◌++◌, length, length-append, refl, ap, sym, ◌∙◌, subst, arith, rules, Option, Some, None, drop}
use Rattle.std.specs.Prelude.{nat_le, nat_lt, slice_get, slice_index_or, slice_set, All, IfSome}
use Rattle.std.specs.List.{last_or, sum_by}
use Rattle.std.proofs.lemmas.List.Sums.{sum_by-cons}
use Rattle.std.proofs.lemmas.List.Elements.{All-head, All-tail}
use Rattle.std.proofs.lemmas.Grind.{common_steps}
use Rattle.std.proofs.lemmas.Option.{slice_get-get_or}
use Rattle.capacity_credits.specs.Meter.{MeterState, passed_one}
use Rattle.dta_model.specs.Riders.{RiderState, moved}
use Rattle.node_transfer.specs.Inside.Pass.{head_action, head_action_by, entry_at, out_open, penalty_of, place_of, turn_links, turn_open, passed, CanPass, NobodyPasses, Rides, FitsAll, total, held, out_links, waitings, entered_at, entered_in, after_arrival, after_entry}
use Rattle.cell_stages.specs.declared.exit.Exit.{Exit}
use Rattle.cell_stages.specs.declared.out_link.OutLink.{OutLink}
use Rattle.node_transfer.specs.declared.step.pass.HeadAction.{HeadAction}
use Rattle.node_transfer.specs.declared.step.pass.HeadAction.TheVariants.{Stays, Arrives, Enters}

pub passed-none : (step : ℕ) (line : List RiderState) (exit : Exit) (outs : List OutLink) (arrived : List RiderState) → slice_get line 0 ≡ None → passed step line exit outs arrived ≡ record { line = line; exit = exit; outs = outs; arrived = arrived }
unfolding passed
passed-none step [] exit outs arrived h = refl
passed-none step (r ∷ line) exit outs arrived h = cc

pub passed-stays : (step : ℕ) (line : List RiderState) (exit : Exit) (outs : List OutLink) (arrived : List RiderState) (r : RiderState) → slice_get line 0 ≡ Some r → head_action step exit outs r ≡ Stays → passed step line exit outs arrived ≡ record { line = line; exit = exit; outs = outs; arrived = arrived }
unfolding passed
passed-stays step [] exit outs arrived r h v = cc
passed-stays step (x ∷ line) exit outs arrived r h v = let same : x ≡ r = cc in rw (ap (λ y. head_action step exit outs y) same ∙ v, passed) refl

-- where nobody may enter the link that the head goes to, nobody passes
pub shut-out : (line : List RiderState) (outs : List OutLink) (r : RiderState) (b : ℕ) → slice_get line 0 ≡ Some r → slice_get r.ahead 0 ≡ Some b
    → out_open (slice_get outs (place_of b (out_links outs))) ≡ false → NobodyPasses line outs
unfolding head_action
shut-out line outs r b first next shut step exit arrived = passed-stays step line exit outs arrived r first (rw next (by_entry (last_or None r.entries)))
  where
    and_false : (c d : Bool) → (c && (d && false)) ≡ false
    and_false true true = refl
    and_false true false = refl
    and_false false d = refl

    stays : (ready : ℕ) → entry_at step ready exit.turns outs (place_of b (out_links outs)) (place_of b (turn_links exit.turns)) ≡ Stays
    stays ready = rw shut (ap (λ c. cond c (Enters (place_of b (out_links outs)) (place_of b (turn_links exit.turns))) Stays) (and_false (nat_le (ready + penalty_of (slice_get exit.turns (place_of b (turn_links exit.turns)))) step) (turn_open (slice_get exit.turns (place_of b (turn_links exit.turns))))))

    either : (c : Bool) (a : HeadAction) → a ≡ Stays → cond c a Stays ≡ Stays
    either true a h = h
    either false a h = refl

    by_entry : (o : Option ℕ) → head_action_by step exit outs o (Some b) ≡ Stays
    by_entry None = refl
    by_entry (Some entry) = either (nat_lt 0 exit.outflow.left) (entry_at step (entry + exit.free) exit.turns outs (place_of b (out_links outs)) (place_of b (turn_links exit.turns))) (stays (entry + exit.free))

pub passed-arrives : (step : ℕ) (line : List RiderState) (exit : Exit) (outs : List OutLink) (arrived : List RiderState) (r : RiderState) → slice_get line 0 ≡ Some r → head_action step exit outs r ≡ Arrives → passed step line exit outs arrived ≡ passed step (drop 1 line) (after_arrival exit) outs (arrived ++ moved r step ∷ [])
unfolding passed
passed-arrives step [] exit outs arrived r h v = cc
passed-arrives step (x ∷ line) exit outs arrived r h v = let same : x ≡ r = cc in rw (ap (λ y. head_action step exit outs y) same ∙ v, passed) (ap (λ y. passed step line (after_arrival exit) outs (arrived ++ moved y step ∷ [])) same)

pub passed-enters : (step : ℕ) (line : List RiderState) (exit : Exit) (outs : List OutLink) (arrived : List RiderState) (r : RiderState) (p k : ℕ) → slice_get line 0 ≡ Some r → head_action step exit outs r ≡ Enters p k → passed step line exit outs arrived ≡ passed step (drop 1 line) (after_entry k exit) (entered_at p step r outs) arrived
unfolding passed
passed-enters step [] exit outs arrived r p k h v = cc
passed-enters step (x ∷ line) exit outs arrived r p k h v = let same : x ≡ r = cc in rw (ap (λ y. head_action step exit outs y) same ∙ v, passed) (ap (λ y. passed step line (after_entry k exit) (entered_at p step y outs) arrived) same)

-- the head of a line rides
pub head_rides : (links : List ℕ) (line : List RiderState) (r : RiderState) → All (Rides links) line → slice_get line 0 ≡ Some r → Rides links r
head_rides links [] r a h = cc
head_rides links (x ∷ line) r a h = let same : x ≡ r = cc in subst (λ y. Rides links y) same (All-head (Rides links) x line a)

pub CanPass-arrives : (line : List RiderState) (outs : List OutLink) (arrived : List RiderState) (r : RiderState) → CanPass line outs arrived → slice_get line 0 ≡ Some r → (m : RiderState) → CanPass (drop 1 line) outs (arrived ++ m ∷ [])
CanPass-arrives [] outs arrived r c h m = cc
CanPass-arrives (x ∷ line) outs arrived r c h m = record {
  rides = All-tail (Rides (out_links outs)) x line c.rides;
  fits = let h : length (x ∷ line) + (length arrived + sum_by held outs) ≤ MOST_RIDERS = c.fits in grind (arith, common_steps);
}

-- entering changes no link and adds one rider
pub entered_links : (o : Option OutLink) (p step : ℕ) (r : RiderState) (outs : List OutLink) → slice_get outs p ≡ o → out_links (entered_in o p step r outs) ≡ out_links outs
entered_links None p step r outs h = refl
entered_links (Some o) p step r [] h = refl
entered_links (Some o) zero step r (x ∷ outs) h = let same : x ≡ o = cc in ap (λ l. l ∷ out_links outs) (sym (ap (λ y. y.link.0) same))
entered_links (Some o) (suc p) step r (x ∷ outs) h = ap (λ ls. x.link.0 ∷ ls) (entered_links (Some o) p step r outs h)

pub entered_waitings : (o : Option OutLink) (p step : ℕ) (r : RiderState) (outs : List OutLink) → slice_get outs p ≡ o → waitings (entered_in o p step r outs) ≡ waitings outs
entered_waitings None p step r outs h = refl
entered_waitings (Some o) p step r [] h = refl
entered_waitings (Some o) zero step r (x ∷ outs) h = let same : x ≡ o = cc in ap (λ l. l ∷ waitings outs) (sym (ap (λ y. y.waiting) same))
entered_waitings (Some o) (suc p) step r (x ∷ outs) h = ap (λ ls. x.waiting ∷ ls) (entered_waitings (Some o) p step r outs h)

pub entered_sum : (o : Option OutLink) (p step : ℕ) (r : RiderState) (outs : List OutLink) → slice_get outs p ≡ o → sum_by held (entered_in o p step r outs) ≤ sum_by held outs + 1
entered_sum None p step r outs h = omega arith
entered_sum (Some o) p step r [] h = omega arith
entered_sum (Some o) zero step r (x ∷ outs) h = let same : x ≡ o = cc in let e : held x ≡ held o = ap (λ y. held y) same in rw (sum_by-cons held, sum_by-cons held) (omega (arith, e, length-append o.batch (moved r step ∷ [])))
entered_sum (Some o) (suc p) step r (x ∷ outs) h = let ih : sum_by held (entered_in (Some o) p step r outs) ≤ sum_by held outs + 1 = entered_sum (Some o) p step r outs h in omega (arith, sum_by-cons held x outs, sum_by-cons held x (entered_in (Some o) p step r outs))

pub CanPass-enters : (line : List RiderState) (outs : List OutLink) (arrived : List RiderState) (r : RiderState) → CanPass line outs arrived → slice_get line 0 ≡ Some r → (p step : ℕ) → CanPass (drop 1 line) (entered_at p step r outs) arrived
CanPass-enters [] outs arrived r c h p step = cc
CanPass-enters (x ∷ line) outs arrived r c h p step = record {
  rides = subst (λ ls. All (Rides ls) line) (sym (entered_links (slice_get outs p) p step r outs refl)) (All-tail (Rides (out_links outs)) x line c.rides);
  fits = let h : length (x ∷ line) + (length arrived + sum_by held outs) ≤ MOST_RIDERS = c.fits in let s = entered_sum (slice_get outs p) p step r outs refl in omega arith;
}

-- a rider enters the out-link at a place
pub entered_is : (outs : List OutLink) (p step : ℕ) (r : RiderState) (d : OutLink) (inflow : MeterState) (batch : List RiderState) → p < length outs
    → inflow ≡ passed_one (slice_index_or outs p d).inflow → batch ≡ (slice_index_or outs p d).batch ++ moved r step ∷ []
    → slice_set outs p (record (slice_index_or outs p d) { inflow = inflow; batch = batch }) ≡ entered_at p step r outs
entered_is outs p step r d inflow batch within passes joins =
    ap (λ m. slice_set outs p (record (slice_index_or outs p d) { inflow = m; batch = batch })) passes
    ∙ ap (λ b. slice_set outs p (record (slice_index_or outs p d) { inflow = passed_one (slice_index_or outs p d).inflow; batch = b })) joins
    ∙ ap (λ o. entered_in o p step r outs) (sym (slice_get-get_or outs p d within))

-- what it tells that a head enters
pub held_fits : (outs : List OutLink) (p n : ℕ) (o : OutLink) → slice_get outs p ≡ Some o → sum_by held outs ≤ n → length o.batch ≤ n
held_fits [] p n o h s = cc
held_fits (x ∷ outs) zero n o h s = let same : x ≡ o = cc in let e : held x ≡ held o = ap (λ y. held y) same in omega (arith, sum_by-cons held x outs)
held_fits (x ∷ outs) (suc p) n o h s = held_fits outs p n o h (omega (arith, sum_by-cons held x outs))

pub ruleset pass_steps = (passed-none, passed-stays, passed-arrives, passed-enters, head_rides)

-- a batch has room for the head of a line
pub batch_fits : (line : List RiderState) (outs : List OutLink) (arrived : List RiderState) (r : RiderState) (p : ℕ) (o : Option OutLink) → slice_get outs p ≡ o → slice_get line 0 ≡ Some r → FitsAll line outs arrived → IfSome o (λ o. length o.batch < MOST_RIDERS)
batch_fits line outs arrived r p None q h f = search rules
batch_fits [] outs arrived r p (Some o) q h f = cc
batch_fits (x ∷ line) outs arrived r p (Some o) q h f = let b = held_fits outs p 4294967294 o q (omega arith) in search rules

pub total-arrives : (line : List RiderState) (outs : List OutLink) (arrived : List RiderState) (r : RiderState) → slice_get line 0 ≡ Some r → (m : RiderState) → total (drop 1 line) outs (arrived ++ m ∷ []) ≤ total line outs arrived
total-arrives [] outs arrived r h m = cc
total-arrives (x ∷ line) outs arrived r h m = omega (arith, length-append arrived (m ∷ []))

pub total-enters : (line : List RiderState) (outs : List OutLink) (arrived : List RiderState) (r : RiderState) → slice_get line 0 ≡ Some r → (p step : ℕ) → total (drop 1 line) (entered_at p step r outs) arrived ≤ total line outs arrived
total-enters [] outs arrived r h p step = cc
total-enters (x ∷ line) outs arrived r h p step = omega (arith, entered_sum (slice_get outs p) p step r outs refl)
