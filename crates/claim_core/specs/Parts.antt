-- The stages of what the units of a loading work on: how often finished units took it to its next
-- stage. Two of a step's units do so with each cell and each mail, and one with what posts.
use Rattle.std.specs.Prelude.{ℕ, ◌*◌}
use Rattle.dta_model.specs.Machine.{Claims, is_finished}
use Rattle.dta_model.specs.Units.{moved_by, node_count, phase_start, unit_count}
use Rattle.dta_model.specs.declared.plan.Plan.{Plan}
use Rattle.claim_core.specs.Sums.{below, one_if, times}

-- how often unit u takes a part to its next stage
abbrev pub moves : Plan → ℕ → ℕ → ℕ
moves p part u = times part (moved_by p u)

-- the stage of a part, by how often each unit is done
unfoldable pub stage_of : Plan → (ℕ → ℕ) → ℕ → ℕ
stage_of p done part = below (unit_count p) (λ u. moves p part u * done u)

-- the stage of a part where all units before the phase of unit c are done, and no other
unfoldable pub stage_before : Plan → ℕ → ℕ → ℕ
stage_before p c part = below (phase_start (node_count p) c) (moves p part)

-- by these claims a unit is done once, or not
abbrev pub done_in : Plan → Claims → ℕ → ℕ
done_in p s u = one_if (is_finished p s u)

-- the stage of a part by these claims
abbrev pub stage_in : Plan → Claims → ℕ → ℕ
stage_in p s part = stage_of p (done_in p s) part
