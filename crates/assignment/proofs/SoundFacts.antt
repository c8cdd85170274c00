-- Each loading of an assignment is sound.
use Rattle.trip_costs.specs.Timings.{Links}
use Rattle.std.proofs.Common.{◌≡◌, ℕ, zero, suc, ◌+◌, List, [], ◌∷◌, Some, refl, subst, arith}
use Rattle.std.specs.Prelude.{slice_get}
use Rattle.net_core.specs.Network.{IsNet}
use Rattle.dta_model.specs.Sound.{IsSound}
use Rattle.dta_model.specs.declared.plan.Plan.{Plan}
use Rattle.dta_model.proofs.Ends.{journeys_end_in_order}
use Rattle.dta_model.proofs.InOrder.{left_in_order}
use Rattle.dta_model.proofs.Onward.{vehicles_are_conserved}
use Rattle.gap.specs.declared.line.GapLine.{GapLine}
use Rattle.route_flows.specs.Selection.{free_time}
use Rattle.route_flows.proofs.Averaged.{next_walk}
use Rattle.route_flows.proofs.Started.{started_walk}
use Rattle.dta_words.specs.Ranges.{AreSettings}
use Rattle.dta_words.specs.declared.command.Settings.{Settings}
use Rattle.assignment.specs.Assignment.{Traffic, VehicleRoutes, costs_of, plan_of}
use Rattle.assignment.specs.Iterations.{AreIterations, AreSoundIterations, ComeFrom}
use Rattle.assignment.specs.Traffic.{IsSoundLoading, AreRoutesOf, AreTripsBelow}
use Rattle.assignment.proofs.AssignmentFacts.{sound-plan}

-- the laws of all loadings, of one that is sound
pub sound-loading : (p : Plan) → IsSound p → IsSoundLoading p
sound-loading p sound = record {
  sound = sound;
  conserved = vehicles_are_conserved p;
  left_in_order = left_in_order p;
  ordered = journeys_end_in_order p;
}

-- ---- iterations

-- before a place of a list there is another
earlier : {A : Type 0} → (xs : List A) (i : ℕ) (x : A) → slice_get xs (suc i) ≡ Some x → (y : A) × (slice_get xs i ≡ Some y)
earlier [] i x e = absurd cc
earlier (y ∷ xs) zero x e = (y, refl)
earlier (y ∷ xs) (suc i) x e = earlier xs i x e

module _ (s : Settings) (traffic : Traffic) (all : List VehicleRoutes) (lines : List GapLine) (it : AreIterations s traffic all lines) where
  -- each has routes for the vehicles, by what the iteration before it has
  routed : (i : ℕ) (r : VehicleRoutes) → slice_get all i ≡ Some r → AreRoutesOf traffic r × ComeFrom s traffic all i r
  routed zero r e =
      let first = it.first r e in (
        record { each = first.as_many; walks = started_walk (Links (free_time traffic.net)) traffic.net traffic.start traffic.trips r first },
        first,
      )
  routed (suc i) r e =
      let before = earlier all i r e in
      let old = before.0 in
      let was = routed i old before.1 in
      let one : suc i ≡ i + 1 = omega arith in
      let next = it.next i old r before.1 (subst (λ (n : ℕ). slice_get all n ≡ Some r) one e) in (
        record { each = next.as_many; walks = next_walk (costs_of s traffic old) traffic.net traffic.trips (i + 1) old r was.0.walks next },
        (old, before.1, next),
      )

pub sound-iterations : (s : Settings) (traffic : Traffic) → AreSettings s → IsNet traffic.net → AreTripsBelow s.horizon traffic.trips
    → AreSoundIterations s traffic
sound-iterations s traffic settings net trips all lines it i r line at on =
    let are = routed s traffic all lines it i r at in record {
      chosen = are.1;
      loading = sound-loading (plan_of s traffic r) (sound-plan s traffic r settings net trips are.0);
      gap = it.gaps i r line at on;
    }
