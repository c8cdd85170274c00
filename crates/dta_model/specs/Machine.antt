-- How workers claim the units of a loading. A claim gives a worker a number, or several in a row;
-- each is given once. It may open its units as soon as all units of earlier phases are finished.
use Rattle.std.specs.Prelude.{ℕ, ◌+◌, Bool, ◌&&◌, not, cond, nat_le, nat_lt, min}
use Rattle.std.specs.Prelude.{List, [], ◌∷◌, Option, Some, slice_get, slice_set, count_by}
use Rattle.std.specs.List.{list_any, repeat}
use Rattle.net_core.specs.Network.{numbers_below}
use Rattle.dta_model.specs.Units.{node_count, phase_end, phase_start, unit_count}
use Rattle.dta_model.specs.declared.machine.Event.{Event}
use Rattle.dta_model.specs.declared.machine.Event.TheVariants as event
use Rattle.dta_model.specs.declared.machine.Outcome.{Outcome}
use Rattle.dta_model.specs.declared.machine.Outcome.TheVariants as outcomes
use Rattle.dta_model.specs.declared.machine.Stage.{Stage}
use Rattle.dta_model.specs.declared.machine.Stage.TheVariants as stage
use Rattle.dta_model.specs.declared.machine.TheConstants.{MOST_CHUNK}
use Rattle.dta_model.specs.declared.plan.Plan.{Plan}

-- how many numbers are drawn, and what each worker has
pub record Claims : Type 0 where
  pub drawn : ℕ
  pub stages : List Stage

-- at the start
abbrev pub all_idle : ℕ → Claims
all_idle workers = record { drawn = 0; stages = repeat workers (stage.Idle ∷ []) }

-- the numbers that a worker has: the first, the end of the open ones, and the end of all, or 0
abbrev pub first_in : Stage → ℕ
first_in stage.Idle = 0
first_in (stage.Held a b) = a
first_in (stage.Open a m b) = a
first_in stage.Ended = 0

abbrev pub open_end : Stage → ℕ
open_end stage.Idle = 0
open_end (stage.Held a b) = a
open_end (stage.Open a m b) = m
open_end stage.Ended = 0

abbrev pub held_end : Stage → ℕ
held_end stage.Idle = 0
held_end (stage.Held a b) = b
held_end (stage.Open a m b) = b
held_end stage.Ended = 0

-- whether it holds a unit, open or not
abbrev pub holds_unit : ℕ → Stage → Bool
holds_unit c s = nat_le (first_in s) c && nat_lt c (held_end s)

-- a unit is finished where its number is drawn and no worker holds it
unfoldable pub is_finished : Plan → Claims → ℕ → Bool
is_finished p s c =
    nat_lt c (min s.drawn (unit_count p)) && not (list_any (holds_unit c) s.stages)

-- how many are
unfoldable pub finished : Plan → Claims → ℕ
finished p s = count_by (is_finished p s) (numbers_below (unit_count p))

-- whether a held unit may be opened
abbrev pub may_open : Plan → Claims → ℕ → Bool
may_open p s c = nat_le (phase_start (node_count p) c) (finished p s)

-- what a worker has once it has opened its units: those of the first one's phase are open
abbrev pub with_open : ℕ → Stage → Stage
with_open n s =
    stage.Open (first_in s) (min (held_end s) (phase_end n (first_in s))) (held_end s)

-- and once it has finished the open ones: the others, if there are any
abbrev pub left_of : Stage → Stage
left_of s =
    cond (nat_lt (open_end s) (held_end s)) (stage.Held (open_end s) (held_end s)) stage.Idle

-- what an event makes: the claims after it, and what its worker is answered
pub record Effect : Type 0 where
  pub claims : Claims
  pub outcome : Outcome

-- an event that doesn't fit what its worker has changes nothing
abbrev pub misplaced : Claims → Effect
misplaced s = record { claims = s; outcome = outcomes.Misplaced }

-- a worker has something else
abbrev pub with_stage : Claims → ℕ → Stage → Claims
with_stage s w x = record s { stages = slice_set s.stages w x }

-- how many numbers a claim may draw
abbrev pub fits_chunk : ℕ → Bool
fits_chunk many = nat_le 1 many && nat_le many MOST_CHUNK

-- an idle worker draws so many numbers. It holds those of units and is answered so, or has ended
-- where the first is none
abbrev pub drawn_by : Plan → Claims → ℕ → ℕ → Outcome → Effect
drawn_by p s w many given =
    cond (nat_lt s.drawn (unit_count p))
    (record {
      claims = record (with_stage s w (stage.Held s.drawn (min (s.drawn + many) (unit_count p)))) {
        drawn = s.drawn + many;
      };
      outcome = given;
    })
    (record {
      claims = record (with_stage s w stage.Ended) { drawn = s.drawn + many };
      outcome = outcomes.Over s.drawn;
    })

abbrev pub claim_by : Plan → Claims → ℕ → Option Stage → Effect
claim_by p s w (Some stage.Idle) = drawn_by p s w 1 (outcomes.Given s.drawn)
claim_by p s w _ = misplaced s

abbrev pub claim_chunk_by : Plan → Claims → ℕ → ℕ → Option Stage → Effect
claim_chunk_by p s w many (Some stage.Idle) =
    cond (fits_chunk many)
    (drawn_by p s w many (outcomes.GivenChunk s.drawn (min (s.drawn + many) (unit_count p))))
    (misplaced s)
claim_chunk_by p s w many _ = misplaced s

-- the units that are held are opened up to the end of the first one's phase, where all units before
-- that phase are finished
abbrev pub open_by : Plan → Claims → ℕ → Option Stage → Effect
open_by p s w (Some (stage.Held a b)) =
    cond (may_open p s a)
    (record {
      claims = with_stage s w (with_open (node_count p) (stage.Held a b));
      outcome = outcomes.Done;
    })
    (record { claims = s; outcome = outcomes.NotYet (finished p s) })
open_by p s w _ = misplaced s

-- the open units are finished, and their worker holds the others, or is idle again
abbrev pub finish_by : Claims → ℕ → Option Stage → Effect
finish_by s w (Some (stage.Open a m b)) =
    record { claims = with_stage s w (left_of (stage.Open a m b)); outcome = outcomes.Done }
finish_by s w _ = misplaced s

unfoldable pub effect_of : Plan → Claims → Event → Effect
effect_of p s (event.Claim w) = claim_by p s w (slice_get s.stages w)
effect_of p s (event.ClaimChunk w many) = claim_chunk_by p s w many (slice_get s.stages w)
effect_of p s (event.Open w) = open_by p s w (slice_get s.stages w)
effect_of p s (event.Finish w) = finish_by s w (slice_get s.stages w)

abbrev pub step_machine : Plan → Claims → Event → Claims
step_machine p s e = (effect_of p s e).claims

abbrev pub outcome : Plan → Claims → Event → Outcome
outcome p s e = (effect_of p s e).outcome

-- after a list of events, and what was answered to them
unfoldable pub run_machine : Plan → List Event → Claims → Claims
run_machine p [] s = s
run_machine p (e ∷ events) s = run_machine p events (step_machine p s e)

unfoldable pub outcomes_of : Plan → List Event → Claims → List Outcome
outcomes_of p [] s = []
outcomes_of p (e ∷ events) s = outcome p s e ∷ outcomes_of p events (step_machine p s e)
