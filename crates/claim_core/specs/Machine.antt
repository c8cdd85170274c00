-- The machine: a plan, what is claimed of its units, and its parts.
use Rattle.std.specs.Prelude.{◌≡◌, ℕ, ◌<◌, ◌^◌, List, length}
use Rattle.dta_model.specs.Machine.{Claims, all_idle, finished, run_machine}
use Rattle.dta_model.specs.Sound.{IsSound}
use Rattle.dta_model.specs.declared.machine.Event.{Event}
use Rattle.dta_model.specs.declared.machine.Event.TheVariants as event
use Rattle.dta_model.specs.declared.plan.Plan.{Plan}
use Rattle.claim_core.specs.Parts.{stage_in}
use Rattle.claim_core.specs.Work.{AreAtStages, PartsState}

pub record MachineState : Type 0 where
  pub plan : Plan
  pub claims : Claims
  pub parts : PartsState

-- some list of events leads to these claims
pub record AreReached (p : Plan) (s : Claims) : Type 0 where
  pub workers : ℕ
  pub events : List Event
  pub claims : s ≡ run_machine p events (all_idle workers)

-- each part is at the stage that the finished units tell
abbrev pub HasParts : MachineState → Type 0
HasParts m = AreAtStages m.plan (stage_in m.plan m.claims) m.parts

-- the worker of an event
abbrev pub worker_of : Event → ℕ
worker_of (event.Claim w) = w
worker_of (event.ClaimChunk w many) = w
worker_of (event.Open w) = w
worker_of (event.Finish w) = w

-- a machine of a sound loading, which has counted so many finished units
pub record IsMachine (m : MachineState) (count : ℕ) : Type 0 where
  pub sound : IsSound m.plan
  pub reached : AreReached m.plan m.claims
  pub parts : HasParts m
  pub counted : count ≡ finished m.plan m.claims
  pub few : length m.claims.stages < 2 ^ 32
