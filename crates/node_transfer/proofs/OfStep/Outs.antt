-- Steps of a release and of an admission.
use Rattle.std.proofs.Common.{◌≡◌, ℕ, ◌<◌, ◌≤◌, List, [], ◌∷◌, ◌++◌, length, refl, ap, sym, subst, arith, Some, None, drop}
use Rattle.std.specs.Prelude.{slice_get}
pub use Rattle.net_core.proofs.Orders.{is_le, is_lt, not_le}
use Rattle.dta_model.specs.Riders.{RiderState, moved}
use Rattle.capacity_credits.specs.Meter.{MeterState, passed_one}
use Rattle.node_transfer.specs.Inside.Outs.{released, admitted}

pub released-none : (step : ℕ) (later due : List RiderState) → slice_get later 0 ≡ None → released step later due ≡ record { later = later; due = due }
unfolding released
released-none step [] due h = refl
released-none step (r ∷ later) due h = cc

pub released-stop : (step : ℕ) (later due : List RiderState) (r : RiderState) → slice_get later 0 ≡ Some r → step < r.departure → released step later due ≡ record { later = later; due = due }
unfolding released
released-stop step [] due r h d = cc
released-stop step (x ∷ later) due r h d = let same : x ≡ r = cc in rw (not_le x.departure step (subst (λ y. step < y.departure) (sym same) d)) refl

pub admitted-none : (step : ℕ) (due batch : List RiderState) (m : MeterState) → length due ≡ 0 → admitted step due batch m ≡ record { due = due; batch = batch; meter = m }
unfolding admitted
admitted-none step [] batch m h = refl
admitted-none step (r ∷ due) batch m h = absurd (omega arith)

pub admitted-stop : (step : ℕ) (due batch : List RiderState) (m : MeterState) → m.left ≡ 0 → admitted step due batch m ≡ record { due = due; batch = batch; meter = m }
unfolding admitted
admitted-stop step [] batch m h = refl
admitted-stop step (r ∷ due) batch m h = rw h refl

pub released-go : (step : ℕ) (later due : List RiderState) (r : RiderState) → slice_get later 0 ≡ Some r → r.departure ≤ step → released step later due ≡ released step (drop 1 later) (due ++ r ∷ [])
unfolding released
released-go step [] due r h d = cc
released-go step (x ∷ later) due r h d = let same : x ≡ r = cc in rw (is_le x.departure step (subst (λ y. y.departure ≤ step) (sym same) d)) (ap (λ y. released step later (due ++ y ∷ [])) same)

pub admitted-go : (step : ℕ) (due batch : List RiderState) (m : MeterState) (r : RiderState) → slice_get due 0 ≡ Some r → 0 < m.left → admitted step due batch m ≡ admitted step (drop 1 due) (batch ++ moved r step ∷ []) (passed_one m)
unfolding admitted
admitted-go step [] batch m r h d = cc
admitted-go step (x ∷ due) batch m r h d = let same : x ≡ r = cc in rw (is_lt 0 m.left d) (ap (λ y. admitted step due (batch ++ moved y step ∷ []) (passed_one m)) same)

pub ruleset release_steps = (released-none, released-stop, released-go)

pub ruleset admit_steps = (admitted-none, admitted-stop, admitted-go)
