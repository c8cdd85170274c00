-- An out-link at the start and at the end of a step, on lists.
use Rattle.std.specs.Prelude.{ℕ, cond, nat_lt, nat_le, List, [], ◌∷◌, ◌++◌, Option, None, Some}
use Rattle.dta_model.specs.Riders.{RiderState, moved}
use Rattle.cell_stages.specs.Contents.{sent}
use Rattle.capacity_credits.specs.Meter.{MeterState, granted, passed_one, closed, capped}
use Rattle.cell_stages.specs.declared.mail.Mail.{Mail}
use Rattle.cell_stages.specs.declared.mail.Mail.TheVariants.{Away, Room, Batch}
use Rattle.cell_stages.specs.declared.out_link.Waiting.{Waiting}
use Rattle.cell_stages.specs.declared.out_link.OutLink.{OutLink}

-- those that are due stand behind those that were due before
unfoldable pub released : ℕ → List RiderState → List RiderState → Waiting
released step [] due = record { later = []; due = due }
released step (r ∷ later) due =
    cond (nat_le r.departure step)
    (released step later (due ++ r ∷ []))
    (record { later = r ∷ later; due = due })

-- an allowance within a room, and within the room that a mail tells
abbrev pub capped_at : Option ℕ → MeterState → MeterState
capped_at None m = m
capped_at (Some room) m = capped room m

abbrev pub capped_by : Mail → MeterState → MeterState
capped_by Away m = m
capped_by (Room step room) m = capped_at room m
capped_by (Batch step line) m = m

-- an out-link at the start of a step: its allowance is granted within its room, and all who are
-- due are known
abbrev pub opened_out : ℕ → OutLink → OutLink
opened_out step o = record o {
  inflow = capped_by o.mail (granted step o.inflow);
  waiting = released step o.waiting.later o.waiting.due;
}

-- those who are still due, those who enter, and the allowance that is left
pub record Admitted : Type 0 where
  pub due : List RiderState
  pub batch : List RiderState
  pub meter : MeterState

-- those that are due enter while the allowance lasts
unfoldable pub admitted : ℕ → List RiderState → List RiderState → MeterState → Admitted
admitted step [] batch m = record { due = []; batch = batch; meter = m }
admitted step (r ∷ due) batch m =
    cond (nat_lt 0 m.left)
    (admitted step due (batch ++ moved r step ∷ []) (passed_one m))
    (record { due = r ∷ due; batch = batch; meter = m })

-- an out-link at the end of a step, when these were admitted: its batch is sent
abbrev pub closed_with : ℕ → OutLink → Admitted → OutLink
closed_with step o a = record o {
  inflow = closed a.meter;
  waiting = record o.waiting { due = a.due };
  batch = [];
  mail = sent step a.batch o.mail;
}

-- an out-link at the end of a step: those who are due enter after those who came over in-links
abbrev pub closed_out : ℕ → OutLink → OutLink
closed_out step o = closed_with step o (admitted step o.waiting.due o.batch o.inflow)
