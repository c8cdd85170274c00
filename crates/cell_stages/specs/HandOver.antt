-- The riders of all nodes together, as a loading hands them over.
use Rattle.std.specs.Prelude.{◌≡◌, ℕ, ◌≤◌, cond, nat_eq, List, [], ◌∷◌, ◌++◌, length, filter, All}
use Rattle.std.specs.List.{flat_map}
use Rattle.dta_model.specs.Loading.{trace_after}
use Rattle.dta_model.specs.Plans.{all_nodes, ins, outs, vehicle_count}
use Rattle.dta_model.specs.Riders.{RiderState, rider_at}
use Rattle.dta_model.specs.Sound.{IsSound}
use Rattle.cell_stages.specs.Stages.{arrived_before, line_before, waiting_before}
use Rattle.dta_model.specs.State.{is_routed}
use Rattle.dta_model.specs.declared.plan.Plan.{Plan}

-- the riders of a node before the transfer of step t: on its in-links, waiting for its out-links,
-- and arrived at it
abbrev pub riders_at : Plan → ℕ → ℕ → List RiderState
riders_at p t n =
    flat_map (line_before p t) (ins p n)
    ++ (flat_map (waiting_before p t) (outs p n) ++ arrived_before p n t)

-- the riders of all nodes before the transfer of step t
unfoldable pub all_riders : Plan → ℕ → List RiderState
all_riders p t = flat_map (riders_at p t) (all_nodes p)

-- riders that are the vehicles of a plan after t steps
pub record AreVehicles (p : Plan) (t : ℕ) (all : List RiderState) : Type 0 where
  -- each vehicle that has a route is there once, as the trace makes it, and no other vehicle is
  -- there
  pub once : (v : ℕ) → filter (λ r. nat_eq r.number v) all
      ≡ cond (is_routed p v) (rider_at p (trace_after p t) v ∷ []) []
  -- so each rider is as the trace makes it
  pub each : All (λ r. r ≡ rider_at p (trace_after p t) r.number) all
  -- and there are no more riders than vehicles
  pub few : length all ≤ vehicle_count p

-- before each step, and after the last one, all nodes together hold the vehicles of the plan
abbrev pub NodesHoldAll : Type 0
NodesHoldAll = (p : Plan) → IsSound p → (t : ℕ) → AreVehicles p t (all_riders p t)
