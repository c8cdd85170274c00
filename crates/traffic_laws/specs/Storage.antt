-- Storage: how many vehicles a link holds.
use Rattle.std.specs.Prelude.{ℕ, ◌≡◌, ◌+◌, ◌-◌, ◌<◌, ◌≤◌, ⊤, length}
use Rattle.dta_model.specs.Loading.{trace_after}
use Rattle.dta_model.specs.Plans.{link_at}
use Rattle.dta_model.specs.Room.{wave_of}
use Rattle.dta_model.specs.Sound.{IsSound}
use Rattle.dta_model.specs.Trace.{queue_of}
use Rattle.dta_model.specs.declared.plan.Plan.{Plan}
use Rattle.dta_model.specs.declared.queue.Queue.{Queue}
use Rattle.dta_model.specs.declared.queue.Queue.TheVariants as queue
use Rattle.traffic_laws.specs.Capacity.{entered_within, left_within}

-- the kinds of queue that bound how many vehicles are on a link
abbrev pub IsBounded : Queue → Type 0
IsBounded queue.Point = ⊥
IsBounded queue.Spatial = ⊤
IsBounded (queue.Newell wave) = ⊤

-- no link holds more vehicles than its storage, after any number of steps
abbrev pub StorageHolds : Type 0
StorageHolds =
    (p : Plan) → IsSound p → IsBounded p.queue → (t l : ℕ) → l < length p.net.links
    → length (queue_of l (trace_after p t)) ≤ (link_at p l).storage

-- the vehicles that enter a link before a step are at most those that leave it before the step in
-- which the backward wave started that arrives then, and its storage
abbrev pub EntriesFollowTheWave : Type 0
EntriesFollowTheWave =
    (p : Plan) → IsSound p → (wave : ℕ) → p.queue ≡ queue.Newell wave
    → (t l step : ℕ) → l < length p.net.links
    → entered_within (trace_after p t) l 0 step
    ≤ left_within (trace_after p t) l 0 (step - wave_of p l) + (link_at p l).storage
