-- Cells while a loading is opened.
use Rattle.std.specs.Prelude.{ℕ, ◌-◌, cond, Option, None, Some, List, [], ◌∷◌, map, filter}
use Rattle.std.specs.Prelude.{slice_index_or}
use Rattle.dta_model.specs.Plans.{ins, link_at, link_rates, outs, turn, turn_rates}
use Rattle.dta_model.specs.Room.{wave_of}
use Rattle.dta_model.specs.Riders.{RiderState}
use Rattle.dta_model.specs.declared.plan.Plan.{Plan}
use Rattle.cell_stages.specs.CellState.{CellState}
use Rattle.node_transfer.specs.Places.{changed_at}
use Rattle.cell_stages.specs.Contents.{is_kept, storage_by, turn_of}
use Rattle.capacity_credits.specs.Meter.{unopened}
use Rattle.link_queues.specs.Leavings.{no_leavings}
use Rattle.cell_stages.specs.declared.in_link.InLink.{InLink}
use Rattle.cell_stages.specs.declared.mail.Mail.TheVariants.{Away}
use Rattle.cell_stages.specs.declared.out_link.OutLink.{OutLink}
use Rattle.cell_stages.specs.declared.turn.LimitedTurn.{LimitedTurn}

-- where it is one that a cell keeps
abbrev pub kept_at_start : Plan → ℕ → ℕ → Option LimitedTurn
kept_at_start p l b =
    cond (is_kept (turn_rates p l b) (turn p l b)) (Some (turn_of p l b)) None

-- those of the turns of link l to the links bs that a cell keeps
abbrev pub turns_at_start : Plan → ℕ → List ℕ → List LimitedTurn
turns_at_start p l bs =
    map (turn_of p l) (filter (λ b. is_kept (turn_rates p l b) (turn p l b)) bs)

-- link l as an in-link of a node with the out-links bs
abbrev pub start_in : Plan → List ℕ → ℕ → InLink
start_in p bs l = record {
  line = [];
  left = no_leavings (wave_of p l - 1);
  exit = record {
    free = (link_at p l).free;
    outflow = unopened p.delta (link_rates p l);
    turns = turns_at_start p l bs;
  };
  storage = storage_by p.queue (link_at p l).storage;
  mail = Away;
}

-- link b as an out-link, with its line among these
abbrev pub start_out : Plan → List (List RiderState) → ℕ → OutLink
start_out p lines b = record {
  link = record { 0 = b };
  inflow = unopened p.delta (link_rates p b);
  waiting = record { later = slice_index_or lines b []; due = [] };
  batch = [];
  mail = Away;
}

-- the lines without that of link b
abbrev pub emptied : ℕ → List (List RiderState) → List (List RiderState)
emptied b lines = changed_at (λ line. []) b lines

-- the links bs as out-links, one after another, and the lines that are left
unfoldable pub taken_outs : Plan → List (List RiderState) → List ℕ → List OutLink
taken_outs p lines [] = []
taken_outs p lines (b ∷ bs) = start_out p lines b ∷ taken_outs p (emptied b lines) bs

unfoldable pub lines_left : List (List RiderState) → List ℕ → List (List RiderState)
lines_left lines [] = lines
lines_left lines (b ∷ bs) = lines_left (emptied b lines) bs

-- the cell of node n, and those of several nodes one after another
abbrev pub taken_cell : Plan → List (List RiderState) → ℕ → CellState
taken_cell p lines n = record {
  ins = map (start_in p (outs p n)) (ins p n);
  outs = taken_outs p lines (outs p n);
  arrived = [];
}

unfoldable pub taken_cells : Plan → List (List RiderState) → List ℕ → List CellState
taken_cells p lines [] = []
taken_cells p lines (n ∷ ns) = taken_cell p lines n ∷ taken_cells p (lines_left lines (outs p n)) ns
