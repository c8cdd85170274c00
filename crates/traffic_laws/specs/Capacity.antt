-- Flow within capacity: how many vehicles enter a link, leave it and take a turn, beside what the
-- rate gives in that time.
use Rattle.std.specs.List.{range_with_len}
use Rattle.std.specs.Prelude.{ℕ, suc, ◌≡◌, ◌+◌, ◌-◌, ◌*◌, ◌<◌, ◌≤◌, Bool, true, ◌&&◌, nat_le}
use Rattle.std.specs.Prelude.{nat_lt, List, [], length, count_by, sum_by, Some, is_some}
use Rattle.net_core.specs.Rates.{rate_in}
use Rattle.net_core.specs.declared.rates.Rates.{Rates}
use Rattle.dta_model.specs.Allowance.{allowance, credited}
use Rattle.dta_model.specs.Loading.{trace_after}
use Rattle.dta_model.specs.Plans.{link_rates, turn_rates}
use Rattle.dta_model.specs.Room.{leavings}
use Rattle.dta_model.specs.Sound.{IsSound}
use Rattle.dta_model.specs.Trace.{Move, leads_to}
use Rattle.dta_model.specs.declared.credit.TheConstants.{PARTS_OF_A_VEHICLE}
use Rattle.dta_model.specs.declared.plan.Plan.{Plan}

-- how many moves of a list pass a test and are made in the steps from s to below u
abbrev pub made_within : (Move → Bool) → List Move → ℕ → ℕ → ℕ
made_within test moves s u = count_by (λ m. test m && nat_le s m.step && nat_lt m.step u) moves

-- how many vehicles enter link l in these steps
abbrev pub entered_within : List Move → ℕ → ℕ → ℕ → ℕ
entered_within T l s u = made_within (leads_to l) T s u

-- how many leave it
abbrev pub left_within : List Move → ℕ → ℕ → ℕ → ℕ
left_within T l s u = made_within (λ m. true) (leavings l [] T) s u

-- how many turn from link l to link b, in those of these steps in which the turn has a limit
abbrev pub turned_within : Rates → List Move → ℕ → ℕ → ℕ → ℕ → ℕ
turned_within rates T l b s u =
    made_within (λ m. leads_to b m && is_some (rate_in rates m.step)) (leavings l [] T) s u

-- rate times time: what rates give in the steps from s to below u, each step with its own rate, in
-- parts of a vehicle
abbrev pub given : Rates → ℕ → ℕ → ℕ → ℕ
given rates delta s u =
    sum_by (λ step. credited (rate_in rates step) * delta) (range_with_len s (u - s))

-- counts of vehicles by the steps from s to below u that rates let through, in steps of delta
-- seconds
pub record IsWithin (rates : Rates) (delta : ℕ) (count : ℕ → ℕ → ℕ) : Type 0 where
  -- in a step no more than its allowance
  pub step : (s : ℕ) → count s (suc s) ≤ allowance rates delta s
  -- from the first step on no more than rate times time
  pub start : (u : ℕ) → count 0 u * PARTS_OF_A_VEHICLE ≤ given rates delta 0 u
  -- over any steps less than rate times time, plus one
  pub steps : (s u : ℕ)
      → count s u * PARTS_OF_A_VEHICLE < given rates delta s u + PARTS_OF_A_VEHICLE
  -- where one rate holds in all of them that is the rate times their number
  pub steady : (s u rate : ℕ) → s ≤ u → ((k : ℕ) → s ≤ k → k < u → rate_in rates k ≡ Some rate)
      → count s u * PARTS_OF_A_VEHICLE < (u - s) * (rate * delta) + PARTS_OF_A_VEHICLE

-- in every sound loading, after any number of steps, on each link
abbrev pub EntriesAreWithin : Type 0
EntriesAreWithin =
    (p : Plan) → IsSound p → (t l : ℕ) → l < length p.net.links
    → IsWithin (link_rates p l) p.delta (entered_within (trace_after p t) l)

abbrev pub LeavingsAreWithin : Type 0
LeavingsAreWithin =
    (p : Plan) → IsSound p → (t l : ℕ) → l < length p.net.links
    → IsWithin (link_rates p l) p.delta (left_within (trace_after p t) l)

-- and on each turn
abbrev pub TurnsAreWithin : Type 0
TurnsAreWithin =
    (p : Plan) → IsSound p → (t l b : ℕ) → l < length p.net.links
    → IsWithin (turn_rates p l b) p.delta (turned_within (turn_rates p l b) (trace_after p t) l b)
