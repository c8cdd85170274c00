-- How many vehicles the space on a link lets in during a step.
use Rattle.std.specs.Prelude.{ℕ, suc, ◌+◌, ◌-◌, Bool, true, cond, nat_lt, List, [], ◌∷◌, ◌++◌}
use Rattle.std.specs.Prelude.{length, count_by, Option, None, Some}
use Rattle.fixed_units.specs.Units.{wave_steps_of}
use Rattle.dta_model.specs.Plans.{link_at}
use Rattle.dta_model.specs.Trace.{Move, leads_to, queue_of, stands_on}
use Rattle.dta_model.specs.declared.plan.Plan.{Plan}
use Rattle.dta_model.specs.declared.queue.Queue.{Queue}
use Rattle.dta_model.specs.declared.queue.Queue.TheVariants as queue

-- the moves of a list by which vehicles leave link l, T being the trace before them: those by a
-- vehicle whose move before was to l
unfoldable pub leavings : ℕ → List Move → List Move → List Move
leavings l T [] = []
leavings l T (m ∷ M) =
    cond (stands_on l T m.vehicle) (m ∷ leavings l (T ++ m ∷ []) M) (leavings l (T ++ m ∷ []) M)

-- how many vehicles entered link l, and how many left it in a step below a bound
abbrev pub entered_by : List Move → ℕ → ℕ
entered_by T l = count_by (leads_to l) T

abbrev pub left_below : ℕ → List Move → ℕ → ℕ
left_below bound T l = count_by (λ m. nat_lt m.step bound) (leavings l [] T)

-- the steps that a backward wave takes over link l. A space that no wave frees is free at once:
-- that is one step
abbrev pub wave_by : Queue → ℕ → ℕ → ℕ → ℕ
wave_by queue.Point micrometres delta horizon = 1
wave_by queue.Spatial micrometres delta horizon = 1
wave_by (queue.Newell wave) micrometres delta horizon =
    wave_steps_of (record { micrometres = micrometres }) wave delta horizon

abbrev pub wave_of : Plan → ℕ → ℕ
wave_of p l = wave_by p.queue (link_at p l).micrometres p.delta p.horizon

-- the room of link l in step t, T being the trace at the start of the step. None is no bound. With
-- a spatial queue it is what is left of the storage beside the vehicles on the link. With Newell's
-- queue it is the storage less those who entered, and more those who left so early that the wave
-- has come back
abbrev pub room_by : Plan → Queue → ℕ → ℕ → List Move → Option ℕ
room_by p queue.Point l t T = None
room_by p queue.Spatial l t T = Some ((link_at p l).storage - length (queue_of l T))
room_by p (queue.Newell wave) l t T =
    Some ((link_at p l).storage + left_below (suc t - wave_of p l) T l - entered_by T l)

unfoldable pub room : Plan → ℕ → ℕ → List Move → Option ℕ
room p l t T = room_by p p.queue l t T

-- whether there is room for one more after so many entries
abbrev pub has_room : Option ℕ → ℕ → Bool
has_room None entries = true
has_room (Some places) entries = nat_lt entries places
