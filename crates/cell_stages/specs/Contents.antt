-- What the cell of a node and the mail of its links hold at each stage of a loading.
use Rattle.std.specs.Prelude.{ℕ, zero, suc, ◌<◌, ◌/◌, ◌%◌, Bool, false, true, ◌&&◌, not, cond}
use Rattle.std.specs.Prelude.{nat_eq, nat_lt, nat_le, ◌+◌, ◌++◌, ◌-◌, ◌||◌, List, [], length, map}
use Rattle.std.specs.Prelude.{filter, Option, None, Some, count_by}
use Rattle.std.specs.List.{range_with_len}
use Rattle.std.specs.Option.{is_none}
use Rattle.dta_model.specs.Loading.{trace_after}
use Rattle.dta_model.specs.NodeMoves.{node_moves}
use Rattle.dta_model.specs.Plans.{link_at, ins, link_rates, outs, turn, turn_rates}
use Rattle.dta_model.specs.Room.{leavings, wave_of}
use Rattle.dta_model.specs.Trace.{Move}
use Rattle.dta_model.specs.Riders.{RiderState}
use Rattle.dta_model.specs.Sound.{IsSound}
use Rattle.dta_model.specs.TimedWalks.{penalty_steps}
use Rattle.cell_stages.specs.Stages.{line_before, line_after, waiting_before, waiting_after}
use Rattle.cell_stages.specs.Stages.{arrived_before, room_mail, batch_mail}
use Rattle.dta_model.specs.declared.plan.Plan.{Plan}
use Rattle.dta_model.specs.declared.queue.Queue.{Queue}
use Rattle.dta_model.specs.declared.queue.Queue.TheVariants as queue
use Rattle.net_core.specs.declared.rates.Rates.{Rates}
use Rattle.net_core.specs.declared.rows.Turn.{Turn}
use Rattle.cell_stages.specs.CellState.{CellState}
use Rattle.capacity_credits.specs.Meter.{MeterState, unopened}
use Rattle.cell_stages.specs.declared.in_link.InLink.{InLink}
use Rattle.cell_stages.specs.declared.mail.Mail.{Mail}
use Rattle.cell_stages.specs.declared.mail.Mail.TheVariants.{Away, Room, Batch}
use Rattle.cell_stages.specs.declared.out_link.OutLink.{OutLink}
use Rattle.cell_stages.specs.declared.out_link.Waiting.{Waiting}
use Rattle.cell_stages.specs.declared.exit.Exit.{Exit}
use Rattle.cell_stages.specs.declared.turn.LimitedTurn.{LimitedTurn}

-- whether rates limit a turn in some step: there is a usual rate, or there are windows
abbrev pub is_limited : Rates → Bool
is_limited rates = not (is_none rates.usual && nat_eq (length rates.windows) 0)

-- a cell keeps the turns that have a penalty or a limit
abbrev pub is_kept : Rates → Option Turn → Bool
is_kept rates None = false
is_kept rates (Some way) = not (nat_eq way.penalty 0) || is_limited rates

-- the out-links to which an in-link has such a turn
abbrev pub kept_turns : Plan → ℕ → ℕ → List ℕ
kept_turns p n l = filter (λ b. is_kept (turn_rates p l b) (turn p l b)) (outs p n)

-- the limit by rates, as the meter says; none where they limit no step
abbrev pub limit_by : (Rates → MeterState) → Rates → Option MeterState
limit_by meter rates = cond (is_limited rates) (Some (meter rates)) None

-- the turn to link b with these rates, of which the table tells so much
abbrev pub turn_by : (Rates → MeterState) → ℕ → Rates → Option Turn → LimitedTurn
turn_by meter b rates way =
    record { to = record { 0 = b }; penalty = penalty_steps way; limit = limit_by meter rates }

-- the turn from an in-link to an out-link, between two steps
abbrev pub turn_of : Plan → ℕ → ℕ → LimitedTurn
turn_of p l b = turn_by (unopened p.delta) b (turn_rates p l b) (turn p l b)

-- how vehicles leave an in-link, between two steps
abbrev pub exit_of : Plan → ℕ → ℕ → Exit
exit_of p n l = record {
  free = (link_at p l).free;
  outflow = unopened p.delta (link_rates p l);
  turns = map (turn_of p l) (kept_turns p n l);
}

-- the storage of a link, where the queues are bounded by it
abbrev pub storage_by : Queue → ℕ → Option ℕ
storage_by queue.Point storage = None
storage_by queue.Spatial storage = Some storage
storage_by (queue.Newell wave) storage = Some storage

-- how many of the vehicles that left link l did so in a step so many before step t
abbrev pub left_ago : List Move → ℕ → ℕ → ℕ → ℕ
left_ago T l t ago = count_by (λ m. nat_eq (m.step + ago) t) (leavings l [] T)

-- how many left link l in each of the steps before step t whose spaces the backward wave hasn't
-- freed in step t yet: those of the last steps, the latest first. T is the trace up to step t
abbrev pub left_lately : Plan → ℕ → List Move → ℕ → List ℕ
left_lately p t T l = map (left_ago T l t) (range_with_len 1 (wave_of p l - 1))

-- an in-link with its line and its mail
abbrev pub in_link :
    Plan → ℕ → (ℕ → List RiderState) → (ℕ → List ℕ) → (ℕ → Mail) → ℕ → InLink
in_link p n line left mail l = record {
  line = line l;
  left = left l;
  exit = exit_of p n l;
  storage = storage_by p.queue (link_at p l).storage;
  mail = mail l;
}

-- a waiting line: those who are due after so many steps apart from the later ones
abbrev pub waiting_parts : ℕ → List RiderState → Waiting
waiting_parts steps riders = record {
  later = filter (λ r. nat_le steps r.departure) riders;
  due = filter (λ r. nat_lt r.departure steps) riders;
}

-- an out-link with its waiting line and its mail
abbrev pub out_link : Plan → ℕ → (ℕ → List RiderState) → (ℕ → Mail) → ℕ → OutLink
out_link p steps waiting mail b = record {
  link = record { 0 = b };
  inflow = unopened p.delta (link_rates p b);
  waiting = waiting_parts steps (waiting b);
  batch = [];
  mail = mail b;
}

-- a place for mail that is empty
abbrev pub away : ℕ → Mail
away l = Away

-- whether two rooms are the same
abbrev pub is_same : Option ℕ → Option ℕ → Bool
is_same None None = true
is_same None (Some b) = false
is_same (Some a) None = false
is_same (Some a) (Some b) = nat_eq a b

-- whether a mail tells this room
abbrev pub tells : Option ℕ → Mail → Bool
tells room Away = false
tells room (Room s there) = is_same there room
tells room (Batch s riders) = false

-- a mail once a room is told for step t: where it tells that room already it stays as it is
abbrev pub told : ℕ → Option ℕ → Mail → Mail
told t room mail = cond (tells room mail) mail (Room t room)

-- a mail once riders are sent in step t: where there are none it stays as it is
abbrev pub sent : ℕ → List RiderState → Mail → Mail
sent t riders mail = cond (nat_lt 0 (length riders)) (Batch t riders) mail

-- the mail of link l before the transfer of step t, which tells its room, and since when it is
-- that
unfoldable pub room_of : Plan → ℕ → ℕ → Mail
room_of p zero l = Room 0 (room_mail p l 0)
room_of p (suc t) l =
    told (suc t) (room_mail p l (suc t)) (sent t (batch_mail p l t) (room_of p t l))

-- and after it: its batch, where somebody enters the link
abbrev pub batch_of : Plan → ℕ → ℕ → Mail
batch_of p t l = sent t (batch_mail p l t) (room_of p t l)

-- what an in-link knows of those who left it before the transfer of step t, and after it
abbrev pub left_before : Plan → ℕ → ℕ → List ℕ
left_before p t l = left_lately p t (trace_after p t) l

abbrev pub left_after : Plan → ℕ → ℕ → ℕ → List ℕ
left_after p n t l =
    left_lately p (suc t) (trace_after p t ++ node_moves p n t (trace_after p t)) l

-- the cell of node n before the transfer of step t, with such mail in the places of its in-links
-- and out-links
unfoldable pub cell_before : Plan → ℕ → ℕ → (ℕ → Mail) → (ℕ → Mail) → CellState
cell_before p n t in_mail out_mail = record {
  ins = map (in_link p n (line_before p t) (left_before p t) in_mail) (ins p n);
  outs = map (out_link p t (waiting_before p t) out_mail) (outs p n);
  arrived = arrived_before p n t;
}

-- the cell of node n after the transfer of step t
unfoldable pub cell_after : Plan → ℕ → ℕ → (ℕ → Mail) → (ℕ → Mail) → CellState
cell_after p n t in_mail out_mail = record {
  ins = map (in_link p n (line_after p n t) (left_after p n t) in_mail) (ins p n);
  outs = map (out_link p (suc t) (waiting_after p n t) out_mail) (outs p n);
  arrived = arrived_before p n (suc t);
}

-- the stages of a cell and of a mail as numbers: stage 2 t is before the transfer of step t, and
-- stage 2 t + 1 after it
abbrev pub is_before : ℕ → Bool
is_before stage = nat_eq (stage % 2) 0

-- the cell of node n at a stage, with its places empty
unfoldable pub cell_at : Plan → ℕ → ℕ → CellState
cell_at p n stage =
    cond (is_before stage)
    (cell_before p n (stage / 2) away away)
    (cell_after p n (stage / 2) away away)

-- the mail of link l at a stage
unfoldable pub mail_at : Plan → ℕ → ℕ → Mail
mail_at p l stage = cond (is_before stage) (room_of p (stage / 2) l) (batch_of p (stage / 2) l)

-- a step of a sound loading at one of its nodes
pub record IsStep (p : Plan) (n t : ℕ) : Type 0 where
  pub sound : IsSound p
  pub node : n < length p.net.nodes
  pub step : t < p.horizon
