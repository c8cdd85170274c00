-- The parts of a loading at the start of step 0.
use Rattle.net_core.specs.Network.{numbers_below}
use Rattle.std.specs.Prelude.{◌≡◌, ℕ, List, [], length, map, None}
use Rattle.dta_model.specs.Plans.{all_nodes, vehicle_count}
use Rattle.dta_model.specs.declared.loaded.Journey.{Journey}
use Rattle.dta_model.specs.declared.plan.Plan.{Plan}
use Rattle.cell_stages.specs.CellState.{CellState}
use Rattle.cell_stages.specs.Contents.{away, cell_before, room_of}
use Rattle.cell_stages.specs.declared.mail.Mail.{Mail}
use Rattle.node_transfer.specs.declared.lists.Opening.{Opening}

-- the cells of all nodes before the transfer of step 0
abbrev pub cells_at_start : Plan → List CellState
cells_at_start p = map (λ n. cell_before p n 0 away away) (all_nodes p)

-- the mail of all links before the transfer of step 0
abbrev pub rooms_at_start : Plan → List Mail
rooms_at_start p = map (room_of p 0) (numbers_below (length p.net.links))

-- a journey without entries and arrival
abbrev pub no_journey : Journey
no_journey = record { entries = []; arrival = None }

abbrev pub no_journeys : ℕ → List Journey
no_journeys count = map (λ v. no_journey) (numbers_below count)

-- the parts at the start of step 0
pub record IsStart (p : Plan) (start : Opening) : Type 0 where
  pub cells : start.cells ≡ cells_at_start p
  pub mail : start.mail ≡ rooms_at_start p
  pub loaded : start.loaded ≡ no_journeys (vehicle_count p)
