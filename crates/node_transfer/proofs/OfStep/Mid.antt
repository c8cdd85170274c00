-- A node's cell in the middle of its transfer, by the moves that it has made so far in the step.
use Rattle.std.specs.Prelude.{ℕ, suc, ◌-◌, length, min, nat_le, List, [], ◌++◌, map, filter, Option, None, Some}
use Rattle.dta_model.specs.Allowance.{allowance}
use Rattle.dta_model.specs.Loading.{trace_after}
use Rattle.dta_model.specs.NodeMoves.{left, entered, turned}
use Rattle.dta_model.specs.Plans.{link_at, link_allowance, link_rates, turn, turn_rates, departure_of}
use Rattle.dta_model.specs.Riders.{RiderState, riders}
use Rattle.dta_model.specs.Room.{room}
use Rattle.std.specs.Option.{is_none}
use Rattle.net_core.specs.Rates.{rate_in}
use Rattle.net_core.specs.declared.rates.Rates.{Rates}
use Rattle.link_queues.specs.Leavings.{pushed}
use Rattle.cell_stages.specs.Stages.{line_before, staying, waiting_for, arrived_before, arrive_by, batch_by}
use Rattle.dta_model.specs.Trace.{Move, queue_of}
use Rattle.dta_model.specs.declared.plan.Plan.{Plan}
use Rattle.cell_stages.specs.Contents.{kept_turns, turn_by, storage_by, exit_of, left_before, room_of, sent}
use Rattle.capacity_credits.specs.Meter.{MeterState, unopened}
use Rattle.cell_stages.specs.declared.in_link.InLink.{InLink}
use Rattle.cell_stages.specs.declared.mail.Mail.TheVariants.{Away}
use Rattle.cell_stages.specs.declared.out_link.OutLink.{OutLink}
use Rattle.cell_stages.specs.declared.out_link.Waiting.{Waiting}
use Rattle.cell_stages.specs.declared.exit.Exit.{Exit}
use Rattle.cell_stages.specs.declared.turn.LimitedTurn.{LimitedTurn}

-- rates in step t, of whose allowance so many vehicles are left, and of which some are used
abbrev pub meter_with : Plan → ℕ → Rates → ℕ → MeterState
meter_with p t rates left = record { rates = rates; delta = p.delta; left = left; unlimited = is_none (rate_in rates t) }

abbrev pub meter_mid : Plan → ℕ → Rates → ℕ → MeterState
meter_mid p t rates used = meter_with p t rates (allowance rates p.delta t - used)

abbrev pub capped_room : Option ℕ → ℕ → ℕ
capped_room None a = a
capped_room (Some places) a = min a places

-- M are the moves so far
module _ (p : Plan) (n t : ℕ) where
  abbrev pub T : List Move
  T = trace_after p t

  abbrev pub line_mid : List Move → ℕ → List RiderState
  line_mid M l = riders p T (staying M (queue_of l T))

  abbrev pub turn_mid : List Move → ℕ → ℕ → LimitedTurn
  turn_mid M l b = turn_by (λ rates. meter_mid p t rates (turned p n t T M l b)) b (turn_rates p l b) (turn p l b)

  abbrev pub exit_mid : List Move → ℕ → Exit
  exit_mid M l = record {
    free = (link_at p l).free;
    outflow = meter_mid p t (link_rates p l) (left p n t T M l);
    turns = map (turn_mid M l) (kept_turns p n l);
  }

  -- how many may enter a link in the step
  abbrev pub takes : ℕ → ℕ
  takes b = capped_room (room p b t T) (link_allowance p b t)

  -- those who wait and are due, and those who are later
  abbrev pub due_now : List Move → ℕ → List ℕ
  due_now M b = filter (λ v. nat_le (departure_of p v) t) (staying M (waiting_for p b T))

  abbrev pub due_later : List Move → ℕ → List ℕ
  due_later M b = filter (λ v. nat_le (suc t) (departure_of p v)) (staying M (waiting_for p b T))

  abbrev pub waiting_mid : List Move → ℕ → Waiting
  waiting_mid M b = record { later = riders p T (due_later M b); due = riders p T (due_now M b) }

  abbrev pub out_mid : List Move → ℕ → OutLink
  out_mid M b = record {
    link = record { 0 = b };
    inflow = meter_with p t (link_rates p b) (takes b - entered p n t T M b);
    waiting = waiting_mid M b;
    batch = batch_by p b T M;
    mail = room_of p t b;
  }

  abbrev pub arrived_mid : List Move → List RiderState
  arrived_mid M = arrived_before p n t ++ arrive_by p T M

  -- how many left an in-link in the last steps, once it has had its turn
  abbrev pub left_mid : List RiderState → ℕ → List ℕ
  left_mid line l = pushed (length (line_before p t l) - length line) (left_before p t l)

  -- an in-link that has had its turn, and an out-link that has
  abbrev pub in_done : List Move → ℕ → InLink
  in_done M l = record {
    line = line_mid M l;
    left = left_mid (line_mid M l) l;
    exit = exit_of p n l;
    storage = storage_by p.queue (link_at p l).storage;
    mail = Away;
  }

  abbrev pub out_done : List Move → ℕ → OutLink
  out_done M b = record {
    link = record { 0 = b };
    inflow = unopened p.delta (link_rates p b);
    waiting = waiting_mid M b;
    batch = [];
    mail = sent t (batch_by p b T M) (room_of p t b);
  }
