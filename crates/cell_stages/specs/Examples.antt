-- Small worked cases of the definitions.
use Rattle.capacity_credits.specs.Meter.{MeterState, unopened}
use Rattle.net_core.specs.Rates.{steady}
use Rattle.std.specs.Prelude.{◌≡◌, ℕ, List, ◌∷◌, [], None, Some, drop, length, map, refl}
use Rattle.dta_model.specs.Examples.{a_wave_frees_room, room_at_the_start_of_the_step, trip}
use Rattle.dta_model.specs.Examples.{two_links_in_a_line}
use Rattle.dta_model.specs.Riders.{RiderState}
use Rattle.dta_model.specs.declared.plan.Plan.{Plan}
use Rattle.cell_stages.specs.CellState.{CellState}
use Rattle.cell_stages.specs.Contents.{away, batch_of, cell_after, cell_at, cell_before, mail_at}
use Rattle.cell_stages.specs.Contents.{left_after, left_before, room_of, waiting_parts}
use Rattle.cell_stages.specs.OnLiterals.{stages_on_literals}
use Rattle.cell_stages.specs.Stages.{line_before, line_after, room_mail, batch_mail}
use Rattle.cell_stages.specs.declared.mail.Mail.TheVariants.{Away, Batch, Room}

-- two riders before their first link, who depart at steps 3 and 4
abbrev waiting : ℕ → ℕ → RiderState
waiting number departure =
    record { number = number; departure = departure; ahead = 2 ∷ []; entries = []; arrival = None }

-- after four steps the first of them is due
one_is_due : waiting_parts 4 (waiting 0 3 ∷ waiting 1 4 ∷ [])
    ≡ record { later = waiting 1 4 ∷ []; due = waiting 0 3 ∷ [] }
one_is_due = refl

-- the middle node in step 15, when the first vehicle goes from one link to the other
abbrev first_rider : List ℕ → RiderState
first_rider entries = record {
  number = 0;
  departure = 5;
  ahead = drop (length entries) (0 ∷ 1 ∷ []);
  entries = entries;
  arrival = None;
}

line_before_the_transfer : line_before two_links_in_a_line 15 0 ≡ first_rider (5 ∷ []) ∷ []
unfolding stages_on_literals trip two_links_in_a_line
line_before_the_transfer = refl

line_after_the_transfer : line_after two_links_in_a_line 1 15 0 ≡ []
unfolding stages_on_literals trip two_links_in_a_line
line_after_the_transfer = refl

batch_of_the_step : batch_mail two_links_in_a_line 1 15 ≡ first_rider (5 ∷ 15 ∷ []) ∷ []
unfolding stages_on_literals trip two_links_in_a_line
batch_of_the_step = refl

room_of_the_step : room_mail two_links_in_a_line 1 15 ≡ None
unfolding stages_on_literals trip two_links_in_a_line
room_of_the_step = refl

-- the mail of the second link tells its room since the start, until somebody enters the link
room_since_the_start : room_of two_links_in_a_line 2 1 ≡ Room 0 None
unfolding room_of stages_on_literals trip two_links_in_a_line
room_since_the_start = refl

-- and that of the first one has the vehicle that enters it in step 5
sent_in_step_five : batch_of two_links_in_a_line 5 0 ≡ Batch 5 (first_rider (5 ∷ []) ∷ [])
unfolding room_of stages_on_literals trip two_links_in_a_line
sent_in_step_five = refl

-- stages 0 and 3 of a cell, and stages 4 and 5 of a mail
nothing_is_done : (p : Plan) (n : ℕ) → cell_at p n 0 ≡ cell_before p n 0 away away
unfolding cell_at
nothing_is_done p n = refl

two_transfers_and_a_gather : (p : Plan) (n : ℕ) → cell_at p n 3 ≡ cell_after p n 1 away away
unfolding cell_at
two_transfers_and_a_gather p n = refl

room_of_step_two : (p : Plan) (l : ℕ) → mail_at p l 4 ≡ room_of p 2 l
unfolding mail_at
room_of_step_two p l = refl

batch_of_step_two : (p : Plan) (l : ℕ) → mail_at p l 5 ≡ batch_of p 2 l
unfolding mail_at
batch_of_step_two p l = refl

-- 600 vehicles an hour in steps of six seconds
abbrev middle_meter : MeterState
middle_meter = unopened 6 (steady (Some 600000000))

-- the middle node of two links in a line in step 15, when the first vehicle goes from one link to
-- the other
abbrev middle_cell : List RiderState → CellState
middle_cell line = record {
  ins = record {
    line = line;
    left = [];
    exit = record {
      free = 10;
      outflow = middle_meter;
      turns = [];
    };
    storage = None;
    mail = Away;
  } ∷ [];
  outs = record {
    link = record { 0 = 1 };
    inflow = middle_meter;
    waiting = record { later = []; due = [] };
    batch = [];
    mail = Away;
  } ∷ [];
  arrived = [];
}

before_the_transfer : cell_before two_links_in_a_line 1 15 away away
    ≡ middle_cell (first_rider (5 ∷ []) ∷ [])
unfolding cell_before stages_on_literals trip two_links_in_a_line
before_the_transfer = refl

after_the_transfer : cell_after two_links_in_a_line 1 15 away away ≡ middle_cell []
unfolding cell_after stages_on_literals trip two_links_in_a_line
after_the_transfer = refl

-- the second link of two in a line, over which a backward wave takes three steps, where six
-- vehicles leave it in step 11 and four in step 12: how many left in the two steps before
left_lately_before_a_step :
    map (λ t. left_before (a_wave_frees_room 20) t 1) (11 ∷ 12 ∷ 13 ∷ 14 ∷ [])
    ≡ (0 ∷ 0 ∷ []) ∷ (6 ∷ 0 ∷ []) ∷ (4 ∷ 6 ∷ []) ∷ (0 ∷ 4 ∷ []) ∷ []
unfolding stages_on_literals trip room_at_the_start_of_the_step a_wave_frees_room
left_lately_before_a_step = refl

left_lately_after_a_transfer :
    map (λ t. left_after (a_wave_frees_room 20) 2 t 1) (11 ∷ 12 ∷ [])
    ≡ (6 ∷ 0 ∷ []) ∷ (4 ∷ 6 ∷ []) ∷ []
unfolding stages_on_literals trip room_at_the_start_of_the_step a_wave_frees_room
left_lately_after_a_transfer = refl
