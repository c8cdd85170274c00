-- The work of a loading in units. A step has a unit for the transfer of each node, one for the
-- gather of each node, and one for the posting of the state: with n nodes 2 n + 1. Units are
-- numbered from 0, step by step, and within a step in this order.
use Rattle.std.specs.Prelude.{ℕ, ◌+◌, ◌-◌, ◌*◌, ◌/◌, ◌%◌, cond, nat_lt, List, [], ◌∷◌, ◌++◌, length}
use Rattle.std.specs.Prelude.{map}
use Rattle.dta_model.specs.Plans.{all_nodes, ins, outs}
use Rattle.dta_model.specs.declared.plan.Plan.{Plan}

-- how many units a step has, by the number of nodes, and how many a loading has
abbrev pub step_units : ℕ → ℕ
step_units n = n + n + 1

abbrev pub node_count : Plan → ℕ
node_count p = length p.net.nodes

unfoldable pub unit_count : Plan → ℕ
unit_count p = p.horizon * step_units (node_count p)

-- what a unit does: the transfer of a node, the gather of a node, or the posting
pub data Task : Type 0 where
  Transfer : ℕ → Task
  Gather : ℕ → Task
  Posting : Task

-- the step of unit u with n nodes, its position in the step, and its task by that position
abbrev pub step_of : ℕ → ℕ → ℕ
step_of n u = u / step_units n

abbrev pub position_of : ℕ → ℕ → ℕ
position_of n u = u % step_units n

abbrev pub task_at : ℕ → ℕ → Task
task_at n i = cond (nat_lt i n) (Transfer i) (cond (nat_lt i (n + n)) (Gather (i - n)) Posting)

unfoldable pub task_of : ℕ → ℕ → Task
task_of n u = task_at n (position_of n u)

-- the transfers of a step are its first phase, the gathers the second, and the posting the third.
-- Where in the step the phase of a task begins, and where it ends
abbrev pub phase_begins : ℕ → Task → ℕ
phase_begins n (Transfer a) = 0
phase_begins n (Gather a) = n
phase_begins n Posting = n + n

abbrev pub phase_ends : ℕ → Task → ℕ
phase_ends n (Transfer a) = n
phase_ends n (Gather a) = n + n
phase_ends n Posting = step_units n

-- the first unit of the phase of a unit, and the first one after that phase
unfoldable pub phase_start : ℕ → ℕ → ℕ
phase_start n u = step_of n u * step_units n + phase_begins n (task_of n u)

unfoldable pub phase_end : ℕ → ℕ → ℕ
phase_end n u = step_of n u * step_units n + phase_ends n (task_of n u)

-- the parts of a loading are numbered: the cells of the nodes, then the mail of the links, and
-- then what posts the state
abbrev pub mail_part : Plan → ℕ → ℕ
mail_part p l = node_count p + l

abbrev pub posting_part : Plan → ℕ
posting_part p = node_count p + length p.net.links

-- what a task takes to its next stage: a transfer the node's cell and the mail of its out-links, a
-- gather the cell and the mail of its in-links, a posting what posts
abbrev pub moved_in : Plan → Task → List ℕ
moved_in p (Transfer n) = n ∷ map (mail_part p) (outs p n)
moved_in p (Gather n) = n ∷ map (mail_part p) (ins p n)
moved_in p Posting = posting_part p ∷ []

-- what it needs for its work: a posting also all cells, which it counts
abbrev pub places_in : Plan → Task → List ℕ
places_in p Posting = all_nodes p ++ posting_part p ∷ []
places_in p task = moved_in p task

-- the same of a unit
unfoldable pub moved_by : Plan → ℕ → List ℕ
moved_by p u = moved_in p (task_of (node_count p) u)

unfoldable pub places : Plan → ℕ → List ℕ
places p u = places_in p (task_of (node_count p) u)
