-- The state of a loading, counted node by node.
use Rattle.std.specs.Prelude.{ℕ, ◌&&◌, cond, nat_lt, List, [], ◌∷◌, ◌++◌, length, map}
use Rattle.std.specs.List.{sum_by}
use Rattle.atomic_table.specs.Seated.{TableId}
use Rattle.net_core.specs.Network.{numbers_below}
use Rattle.dta_model.specs.Loading.{trace_after}
use Rattle.dta_model.specs.Plans.{all_nodes, link_at}
use Rattle.dta_model.specs.State.{count_on}
use Rattle.dta_model.specs.Units.{posting_part}
use Rattle.dta_model.specs.declared.eight.Eight.{Eight}
use Rattle.dta_model.specs.declared.plan.Plan.{Plan}
use Rattle.cell_stages.specs.Contents.{away, cell_before}
use Rattle.node_transfer.specs.Counts.{counts_at}
use Rattle.phase_claims.specs.declared.part.Part.{Part}
use Rattle.phase_claims.specs.declared.part.Part.TheVariants.{Cell, Writer}
use Rattle.phase_claims.specs.PlacesHome.{posted_in}

-- the vehicles on a link after t steps, where it is in the table and leads to one of the first
-- nodes
abbrev pub first_on : Plan → ℕ → ℕ → ℕ → ℕ
first_on p t nodes l =
    cond (nat_lt l (length p.net.links) && nat_lt (link_at p l).to.0 nodes)
    (count_on (trace_after p t) l) 0

abbrev pub firsts_on : Plan → ℕ → ℕ → List ℕ
firsts_on p t nodes =
    first_on p t nodes 0 ∷ first_on p t nodes 1 ∷ first_on p t nodes 2 ∷ first_on p t nodes 3 ∷ []

-- the eight numbers of the first nodes after t steps
abbrev pub counted_in : Plan → ℕ → ℕ → Eight
counted_in p t nodes = record {
  steps = t;
  waiting = sum_by (λ n. (counts_at p n t).waiting) (numbers_below nodes);
  running = sum_by (λ n. (counts_at p n t).running) (numbers_below nodes);
  arrived = sum_by (λ n. (counts_at p n t).arrived) (numbers_below nodes);
  first = firsts_on p t nodes;
}

-- the places of all cells after t steps, and that of the writer's pass with so many postings
abbrev pub cell_place : Plan → ℕ → ℕ → ℕ × Part
cell_place p t n = (n, Cell (cell_before p n t away away))

abbrev pub writer_place : Plan → TableId → ℕ → ℕ × Part
writer_place p board t =
    (posting_part p, Writer (record { board = board; list = posted_in p t }))

-- what a posting has with it
abbrev pub posting_places : Plan → TableId → ℕ → ℕ → List (ℕ × Part)
posting_places p board t postings =
    map (cell_place p t) (all_nodes p) ++ writer_place p board postings ∷ []
