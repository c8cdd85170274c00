-- A node's cell in a transfer and in a gather, on lists.
use Rattle.link_queues.specs.Leavings.{pushed}
use Rattle.link_queues.specs.declared.line.TheConstants.{MOST_RIDERS}
use Rattle.std.specs.Prelude.{◌≡◌, ℕ, ◌+◌, ◌-◌, ◌≤◌, ◌%◌, cond, List, [], ◌∷◌, ◌++◌, length, map}
use Rattle.std.specs.Prelude.{nat_eq, None, All, drop, take}
use Rattle.std.specs.List.{sum_by}
use Rattle.dta_model.specs.Riders.{RiderState}
use Rattle.cell_stages.specs.CellState.{CellState}
use Rattle.node_transfer.specs.Inside.Pass.{Work, passed, Rides, held, out_links}
use Rattle.node_transfer.specs.Exits.{opened_exit, closed_exit}
use Rattle.node_transfer.specs.Inside.Outs.{opened_out, closed_out}
use Rattle.cell_stages.specs.declared.exit.Exit.{Exit}
use Rattle.cell_stages.specs.declared.in_link.InLink.{InLink}
use Rattle.cell_stages.specs.declared.out_link.OutLink.{OutLink}
use Rattle.node_transfer.specs.Gathered.{mail_line}
use Rattle.node_transfer.specs.Inside.Lengths.{line_length}

-- an in-link with the out-links and the riders who arrived, while its heads move
pub record LinkWork : Type 0 where
  pub link : InLink
  pub outs : List OutLink
  pub arrived : List RiderState

-- an in-link once its heads have moved: its line and its exit as they then are, and how many left
-- it
abbrev pub link_after : InLink → Work → LinkWork
link_after link w = record {
  link = record link {
    line = w.line;
    left = pushed (length link.line - length w.line) link.left;
    exit = closed_exit w.exit;
  };
  outs = w.outs;
  arrived = w.arrived;
}

-- the heads of one in-link move
abbrev pub passed_link : ℕ → InLink → List OutLink → List RiderState → LinkWork
passed_link step link outs arrived =
    link_after link (passed step link.line (opened_exit step link.exit) outs arrived)

-- the in-links, the out-links and the riders who arrived, while heads move
pub record CellWork : Type 0 where
  pub ins : List InLink
  pub outs : List OutLink
  pub arrived : List RiderState

-- one more in-link before the others
abbrev pub put_first : InLink → CellWork → CellWork
put_first link w = record w { ins = link ∷ w.ins }

-- the heads of all in-links, in order
unfoldable pub passed_links : ℕ → List InLink → List OutLink → List RiderState → CellWork
passed_links step [] outs arrived = record { ins = []; outs = outs; arrived = arrived }
passed_links step (link ∷ ins) outs arrived =
    put_first (passed_link step link outs arrived).link
    (passed_links step ins
    (passed_link step link outs arrived).outs
    (passed_link step link outs arrived).arrived)

-- the second part of the in-links went first
abbrev pub joined_behind : CellWork → CellWork → CellWork
joined_behind back front = record front { ins = front.ins ++ back.ins }

-- the heads of the first in-links, after those of the others
abbrev pub passed_front : ℕ → List InLink → CellWork → CellWork
passed_front step front back =
    joined_behind back (passed_links step front back.outs back.arrived)

-- the heads of all in-links, from the one at place `start` on
abbrev pub passed_rotated : ℕ → ℕ → List InLink → List OutLink → List RiderState → CellWork
passed_rotated step start ins outs arrived =
    passed_front step (take start ins) (passed_links step (drop start ins) outs arrived)

-- how many riders stand in all in-links and behind them
abbrev pub cell_total : List InLink → List OutLink → List RiderState → ℕ
cell_total ins outs arrived = sum_by line_length ins + (length arrived + sum_by held outs)

-- an exit of which no step is open
abbrev pub IsShut : Exit → Type 0
IsShut exit = closed_exit exit ≡ exit

-- all who stand in the in-links ride on to an out-link or arrive, their exits are shut, and lists
-- hold all riders
pub record CanCross (ins : List InLink) (outs : List OutLink) (arrived : List RiderState)
    : Type 0 where
  pub rides : All (λ link. All (Rides (out_links outs)) link.line) ins
  pub shut : All (λ link. IsShut link.exit) ins
  pub fits : cell_total ins outs arrived ≤ MOST_RIDERS

-- the place of the in-link that begins
abbrev pub start_at : ℕ → List InLink → ℕ
start_at step ins = cond (nat_eq (length ins) 0) 0 (step % length ins)

-- a cell once all heads have moved: those who wait enter, and batches are told
abbrev pub finished : ℕ → CellState → CellWork → CellState
finished step s w =
    record s { ins = w.ins; outs = map (closed_out step) w.outs; arrived = w.arrived }

-- the cell after the transfer of a step
abbrev pub transferred : ℕ → CellState → CellState
transferred step s =
    finished step s
    (passed_rotated step (start_at step s.ins) s.ins
    (map (opened_out step) s.outs)
    s.arrived)

-- a rider who hasn't arrived
abbrev pub UnderWay : RiderState → Type 0
UnderWay r = r.arrival ≡ None

-- those who wait for an out-link are under way
pub record Waits (o : OutLink) : Type 0 where
  pub later : All UnderWay o.waiting.later
  pub due : All UnderWay o.waiting.due

-- what the riders of a cell, their number and its exits allow
pub record CanTransfer (s : CellState) : Type 0 where
  pub rides : All (λ link. All (Rides (out_links s.outs)) link.line) s.ins
  pub shut : All (λ link. IsShut link.exit) s.ins
  pub waits : All Waits s.outs
  pub fits : cell_total s.ins s.outs s.arrived ≤ MOST_RIDERS

-- the line of an in-link has room for those who come with its mail
abbrev pub CanGather : InLink → Type 0
CanGather link = length link.line + length (mail_line link.mail) ≤ MOST_RIDERS
