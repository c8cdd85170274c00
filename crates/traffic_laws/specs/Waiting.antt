-- Nobody waits without a reason: who may go by the clock and doesn't is held by an allowance or a
-- room that is used up.
use Rattle.std.specs.Prelude.{ℕ, suc, ◌≡◌, ◌+◌, ◌≤◌, false, Some, IsSome, slice_get}
use Rattle.net_core.specs.Rates.{rate_in}
use Rattle.dta_model.specs.Allowance.{allowance}
use Rattle.dta_model.specs.LinkTimes.{penalty_to}
use Rattle.dta_model.specs.Loading.{trace_after}
use Rattle.dta_model.specs.Plans.{departure_of, first_link, link_allowance, link_at, turn_rates}
use Rattle.dta_model.specs.Room.{room}
use Rattle.dta_model.specs.Sound.{IsSound}
use Rattle.dta_model.specs.Trace.{Move, Target, Onto, has_moved, last_move, next_target}
use Rattle.dta_model.specs.Trace.{queue_of}
use Rattle.dta_model.specs.declared.plan.Plan.{Plan}
use Rattle.traffic_laws.specs.Capacity.{entered_within, left_within, turned_within}

-- link b lets nobody more in during step t: as many entered it in the step as its allowance, or as
-- its room
pub data IsFull (p : Plan) (t b : ℕ) : Type 0 where
  by_allowance : entered_within (trace_after p (suc t)) b t (suc t) ≡ link_allowance p b t
      → IsFull p t b
  by_room : room p b t (trace_after p t) ≡ Some (entered_within (trace_after p (suc t)) b t (suc t))
      → IsFull p t b

-- the turn from link l to link b has a limit in step t, and was taken as often as its allowance
pub record IsTurnUsedUp (p : Plan) (t l b : ℕ) : Type 0 where
  pub limited : IsSome (rate_in (turn_rates p l b) t)
  pub used :
      turned_within (turn_rates p l b) (trace_after p (suc t)) l b t (suc t)
      ≡ allowance (turn_rates p l b) p.delta t

-- what holds the first vehicle on link l in step t, x being where it goes next
pub data IsHeld (p : Plan) (t l : ℕ) (x : Target) : Type 0 where
  -- as many left the link as its allowance
  by_link : left_within (trace_after p (suc t)) l t (suc t) ≡ link_allowance p l t → IsHeld p t l x
  by_turn : (b : ℕ) → x ≡ Onto b → IsTurnUsedUp p t l b → IsHeld p t l x
  by_next : (b : ℕ) → x ≡ Onto b → IsFull p t b → IsHeld p t l x

-- after step t vehicle v is the first on link l, and it was ready to leave in that step: its
-- free-flow steps and the penalty of its turn are over
pub record IsReady (p : Plan) (t l v : ℕ) : Type 0 where
  pub first : slice_get (queue_of l (trace_after p (suc t))) 0 ≡ Some v
  pub entry : Move
  pub entered : last_move v (trace_after p (suc t)) ≡ Some entry
  pub ready :
      entry.step + (link_at p l).free
      + penalty_to p l (next_target p (trace_after p (suc t)) v)
      ≤ t

-- it is held
abbrev pub HeadsAreHeld : Type 0
HeadsAreHeld =
    (p : Plan) → IsSound p → (t l v : ℕ) → IsReady p t l v
    → IsHeld p t l (next_target p (trace_after p (suc t)) v)

-- after step t vehicle v still waits at its origin to enter link b, and was to depart by then
pub record IsDelayed (p : Plan) (t v b : ℕ) : Type 0 where
  pub first : first_link p v ≡ Some b
  pub due : departure_of p v ≤ t
  pub waits : has_moved v (trace_after p (suc t)) ≡ false

-- then the link lets nobody more in
abbrev pub OriginsAreHeld : Type 0
OriginsAreHeld = (p : Plan) → IsSound p → (t v b : ℕ) → IsDelayed p t v b → IsFull p t b
