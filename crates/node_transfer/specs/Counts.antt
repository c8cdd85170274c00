-- How many vehicles of a cell wait, run and have arrived.
use Rattle.std.specs.List.{sum_by}
use Rattle.std.specs.Prelude.{◌≡◌, ℕ, length}
use Rattle.dta_model.specs.Loading.{trace_after}
use Rattle.dta_model.specs.Plans.{all_nodes, ins, outs}
use Rattle.dta_model.specs.Sound.{IsSound}
use Rattle.cell_stages.specs.Stages.{arrived_before, waiting_before}
use Rattle.dta_model.specs.State.{count_on, eight_after}
use Rattle.dta_model.specs.declared.plan.Plan.{Plan}
use Rattle.link_queues.specs.Lines.{due}
use Rattle.node_transfer.specs.declared.cell.CellCounts.{CellCounts}

-- of node n after t steps: those who wait for its out-links and are due, those on its in-links,
-- and those who arrived at it
abbrev pub counts_at : Plan → ℕ → ℕ → CellCounts
counts_at p n t = record {
  waiting = sum_by (λ b. due t (waiting_before p t b)) (outs p n);
  running = sum_by (count_on (trace_after p t)) (ins p n);
  arrived = length (arrived_before p n t);
}

-- the counts of all nodes after t steps add up to those of the loading
pub record AddUp (p : Plan) (t : ℕ) : Type 0 where
  pub waiting : sum_by (λ n. (counts_at p n t).waiting) (all_nodes p) ≡ (eight_after p t).waiting
  pub running : sum_by (λ n. (counts_at p n t).running) (all_nodes p) ≡ (eight_after p t).running
  pub arrived : sum_by (λ n. (counts_at p n t).arrived) (all_nodes p) ≡ (eight_after p t).arrived

-- so it is in each sound loading, after each number of steps
abbrev pub CountsAddUp : Type 0
CountsAddUp = (p : Plan) → IsSound p → (t : ℕ) → AddUp p t
