-- What is true of those who leave links.
use Rattle.std.specs.Prelude.{[], ◌≡◌, ℕ, suc, ◌+◌, ◌<◌, List, ◌++◌, length, filter, All}
use Rattle.dta_model.specs.Loading.{trace_after}
use Rattle.dta_model.specs.NodeMoves.{node_moves}
use Rattle.dta_model.specs.Plans.{link_at}
use Rattle.dta_model.specs.Room.{entered_by, leavings, room_by, wave_of}
use Rattle.dta_model.specs.Sound.{IsSound}
use Rattle.dta_model.specs.Trace.{Move, queue_of, stands_on}
use Rattle.dta_model.specs.declared.plan.Plan.{Plan}
use Rattle.dta_model.specs.declared.queue.Queue.TheVariants as queue

-- each move of the first steps is in one of them
abbrev pub StepsAreBelow : Type 0
StepsAreBelow = (p : Plan) (t : ℕ) → All (λ m. m.step < t) (trace_after p t)

-- who entered a link is on it or has left it
abbrev pub EntriesAddUp : Type 0
EntriesAddUp =
    (p : Plan) (t l : ℕ)
    → entered_by (trace_after p t) l
    ≡ length (queue_of l (trace_after p t)) + length (leavings l [] (trace_after p t))

-- where a backward wave takes one step over a link, its room with Newell's queue is that with a
-- spatial queue
abbrev pub OneStepIsSpatial : Type 0
OneStepIsSpatial =
    (p : Plan) (t l wave : ℕ) → wave_of p l ≡ 1
    → room_by p (queue.Newell wave) l t (trace_after p t)
    ≡ room_by p queue.Spatial l t (trace_after p t)

-- the moves by which link l is left in step t: those that the node at its end makes with vehicles
-- that are on it at the start of the step
abbrev pub leaving_moves : Plan → ℕ → ℕ → List Move
leaving_moves p t l =
    filter (λ m. stands_on l (trace_after p t) m.vehicle)
    (node_moves p (link_at p l).to.0 t (trace_after p t))

-- they are all by which it is left: after the moves of that node, and after those of all nodes
pub record IsLeftAtItsEnd (p : Plan) (t l : ℕ) : Type 0 where
  pub node : leavings l [] (trace_after p t ++ node_moves p (link_at p l).to.0 t (trace_after p t))
      ≡ leavings l [] (trace_after p t) ++ leaving_moves p t l
  pub step : leavings l [] (trace_after p (suc t))
      ≡ leavings l [] (trace_after p t) ++ leaving_moves p t l

abbrev pub LinksAreLeftAtTheirEnds : Type 0
LinksAreLeftAtTheirEnds =
    (p : Plan) → IsSound p → (t l : ℕ) → l < length p.net.links → IsLeftAtItsEnd p t l
